-- The characters of a text in JSON.
use Rattle.std.proofs.Common.{◌≡◌, ℕ, ◌+◌, ◌-◌, ◌/◌, ◌%◌, ◌<◌, ◌≤◌, List, [], ◌∷◌, ◌++◌, Bool, true, false, ◌&&◌, cond, nat_lt, codes, flat_map, refl, arith, ◌⊎◌, inl, inr}
use Rattle.std.specs.Str.{IsUtf8, is_utf8, chars}
use Rattle.std.specs.Char.Escape.{encode_utf16}
use Rattle.std.proofs.lemmas.Str.{is_utf8-from_IsUtf8, IsUtf8-from_is_utf8, scalars-chars}
use Rattle.std.proofs.lemmas.Grind.{common_steps}
use lib.Utf8.{scalar, scalars, scalar_cases}
use Rattle.krb_der_core.specs.Encoding.{IsOctets}
use Rattle.krb_show_text.specs.declared.escape.Style.TheVariants as style
use Rattle.krb_show.specs.Leaves.{hex_octet}
use Rattle.krb_show_text.specs.Text.{ArePrintable, escaped, escaped_octet}
use Rattle.krb_show_text.specs.Json.{json_unit, json_character, json_characters, json_text}
use Rattle.krb_show_text.proofs.Printable.{printable_append, printable_choice, printable_escaped, printable_hex_octet, printable_octet}

pub text_characters : (octets : List ℕ) → IsUtf8 octets → json_characters octets ≡ flat_map json_character (chars octets)
text_characters octets valid = rw (is_utf8-from_IsUtf8 octets valid) refl

not_true : (b : Bool) → (b ≡ true → ⊥) → b ≡ false
not_true true never = absurd (never refl)
not_true false never = refl

pub other_characters : (octets : List ℕ) → (IsUtf8 octets → ⊥) → json_characters octets ≡ escaped style.Json octets
other_characters octets never = rw (not_true (is_utf8 octets) (λ e. never (IsUtf8-from_is_utf8 octets e))) refl

unit_printable : (unit : ℕ) → unit < 65536 → ArePrintable (json_unit unit)
unit_printable unit small =
    printable_append (codes "\\u" ++ hex_octet (unit / 256)) (hex_octet (unit % 256))
    (printable_append (codes "\\u") (hex_octet (unit / 256)) (grind arith) (printable_hex_octet (unit / 256) (omega (arith, small))))
    (printable_hex_octet (unit % 256) (omega arith))

-- the units of a character, by how many they are
units_printable : (is_one : Bool) (one high low : ℕ) → (is_one ≡ true → one < 65536) → high < 65536 → low < 65536
    → ArePrintable (flat_map json_unit (cond is_one (one ∷ []) (high ∷ low ∷ [])))
units_printable true one high low fits a b = printable_append (json_unit one) [] (unit_printable one (fits refl)) tt
units_printable false one high low fits a b =
    printable_append (json_unit high) (json_unit low ++ []) (unit_printable high a) (printable_append (json_unit low) [] (unit_printable low b) tt)

-- a scalar value has at most 21 bits
scalar_small : (c : ℕ) → (c < 55296) ⊎ ((57344 ≤ c) × (c < 1114112)) → c < 1114112
scalar_small c (inl low) = omega (arith, low)
scalar_small c (inr high) = high.1

character_printable : (c : ℕ) → c < 1114112 → ArePrintable (json_character c)
character_printable c small =
    printable_choice (nat_lt c 128) (escaped_octet style.Json c) (flat_map json_unit (encode_utf16 c))
    (λ e. printable_octet style.Json c (grind (arith, common_steps, e)))
    (λ e. units_printable (nat_lt c 0x1_0000) c (0xD800 + (c - 0x1_0000) / 0x400) (0xDC00 + (c - 0x1_0000) % 0x400)
    (λ one. grind (arith, common_steps, one)) (omega (arith, small)) (omega arith))

both : (a b : Bool) → a && b ≡ true → (a ≡ true) × (b ≡ true)
both true b e = (refl, e)
both false b e = cc

characters_printable : (cs : List ℕ) → scalars cs ≡ true → ArePrintable (flat_map json_character cs)
characters_printable [] valid = tt
characters_printable (c ∷ cs) valid =
    let each = both (scalar c) (scalars cs) valid in
    printable_append (json_character c) (flat_map json_character cs) (character_printable c (scalar_small c (scalar_cases c each.0))) (characters_printable cs each.1)

pub printable_text : (octets : List ℕ) → IsOctets octets → ArePrintable (json_text octets)
printable_text octets h = (
  grind arith,
  printable_append (json_characters octets) (34 ∷ [])
      (printable_choice (is_utf8 octets) (flat_map json_character (chars octets)) (escaped style.Json octets)
      (λ e. characters_printable (chars octets) (scalars-chars octets (IsUtf8-from_is_utf8 octets e))) (λ e. printable_escaped style.Json octets h))
      (grind arith),
)
