-- The tokens of leaves.
use Rattle.std.specs.Prelude.{◌≡◌, ◌≢◌, ℕ, zero, suc, ◌+◌, ◌/◌, ◌%◌, nat_lt, nat_eq, if◌then◌else◌, ◌⊎◌, Bool, true, false, ℤ, pos, List, [], ◌∷◌, ◌++◌, Option, None, Some, codes, All, FitsSigned}
use Rattle.std.specs.List.{flat_map}
use Rattle.std.specs.Int.{w64}
use Rattle.std.specs.Fmt.{decimal, signed_decimal}
use Rattle.krb_der_core.specs.Integer.{shortest}
use Rattle.krb_der_core.specs.BitString.{Bits}
use Rattle.krb_der_core.specs.GeneralizedTime.{Time}
use Rattle.krb_registry.specs.declared.kind.Kind.{Kind}
use Rattle.krb_registry.specs.Names.{table, mechanisms, IsRow, IsMechanism}
use Rattle.krb_types.specs.Flags.{is_set}
use Rattle.krb_show.specs.declared.token.Form.TheVariants as form
use Rattle.krb_show.specs.NameTexts.{name_text}
use Rattle.krb_show.specs.Tokens.{Label, Token, adds, leaf, name_token, noted, number_token}

-- ---- digits

-- the digit of a number below 16, in ASCII
abbrev pub digit : ℕ → ℕ
digit n = if nat_lt n 10 then 48 + n else 87 + n

-- the two digits of an octet, in lower case
abbrev pub hex_octet : ℕ → List ℕ
hex_octet octet = digit (octet / 16) ∷ digit (octet % 16) ∷ []

abbrev pub hex : List ℕ → List ℕ
hex octets = flat_map hex_octet octets

-- the two decimal digits of a number below 100
abbrev pub two : ℕ → List ℕ
two n = digit (n / 10) ∷ digit (n % 10) ∷ []

-- ---- numbers

-- the note of a number is a blank and its name, or nothing where the kind has no name for it
abbrev pub IsNote : Option Kind → ℤ → List ℕ → Type 0
IsNote None number note = note ≡ []
IsNote (Some kind) number note =
    ((name : List ℕ) × IsRow kind number name × (note ≡ 32 ∷ name)) ⊎ (All (λ row. row.0 ≢ number) (table kind) × (note ≡ []))

-- a number of 64 bits in decimal, with its name; a larger one as the octets of its two's complement
abbrev pub number_of : Label → ℤ → List Token → List Token → Type 0
number_of label z old new =
    ((note : List ℕ) × FitsSigned w64 z × IsNote label.kind z note
    × (new ≡ old ++ number_token label z (signed_decimal z) note ∷ []))
    ⊎ ((FitsSigned w64 z → ⊥) × (new ≡ old ++ leaf form.Octets label (shortest z) ∷ []))

-- an unsigned number, in decimal and without a name
abbrev pub unsigned_of : Label → ℕ → List Token → List Token → Type 0
unsigned_of label n = adds (leaf form.Number label (decimal n))

-- ---- flags

-- the name of a flag is that of its kind, or its number where the kind has none
abbrev pub IsFlagName : Kind → ℕ → List ℕ → Type 0
IsFlagName kind bit name = IsRow kind (pos bit) name ⊎ (All (λ row. row.0 ≢ pos bit) (table kind) × (name ≡ decimal bit))

-- a flag adds a blank and its name where it is set
abbrev pub adds_flag : Kind → List ℕ → ℕ → List ℕ → List ℕ → Type 0
adds_flag kind octets bit before note =
    ((is_set octets bit ≡ true) × (name : List ℕ) × IsFlagName kind bit name × (note ≡ before ++ 32 ∷ name))
    ⊎ ((is_set octets bit ≡ false) × (note ≡ before))

-- the names of the flags that are set among so many
unfoldable pub AreFlags : Kind → List ℕ → ℕ → List ℕ → Type 0
AreFlags kind octets zero note = note ≡ []
AreFlags kind octets (suc bit) note = (before : List ℕ) × AreFlags kind octets bit before × adds_flag kind octets bit before note

-- flags of RFC 4120, 5.2.8, are 32 bits
abbrev pub IsFlagsNote : Option Kind → List ℕ → List ℕ → Type 0
IsFlagsNote None octets note = note ≡ []
IsFlagsNote (Some kind) octets note = AreFlags kind octets 32 note

-- the octets in hexadecimal, and behind `/` how many bits of the last are spare, where any are
abbrev pub flags_word : Bits → List ℕ
flags_word bits = codes "0x" ++ hex bits.octets ++ (if nat_eq bits.spare 0 then [] else 47 ∷ decimal bits.spare)

abbrev pub flags_of : Label → Bits → List Token → List Token → Type 0
flags_of label bits old new = (note : List ℕ) × IsFlagsNote label.kind bits.octets note
    × (new ≡ old ++ noted form.Flags label (flags_word bits) note ∷ [])

-- ---- object identifiers

-- the note of an object identifier is a blank and the name of the mechanism that has it, or nothing where none has
unfoldable pub IsIdentifierNote : List ℕ → List ℕ → Type 0
IsIdentifierNote dotted note =
    ((name : List ℕ) × IsMechanism dotted name × (note ≡ 32 ∷ name)) ⊎ (All (λ row. row.0 ≢ dotted) mechanisms × (note ≡ []))

-- the dotted numbers of an object identifier, with its name
abbrev pub identifier_of : Label → List ℕ → List Token → List Token → Type 0
identifier_of label dotted old new = (note : List ℕ) × IsIdentifierNote dotted note
    × (new ≡ old ++ noted form.Identifier label dotted note ∷ [])

-- ---- the rest

-- `true` or `false`
abbrev pub truth_word : Bool → List ℕ
truth_word true = codes "true"
truth_word false = codes "false"

abbrev pub truth_of : Label → Bool → List Token → List Token → Type 0
truth_of label value = adds (leaf form.Number label (truth_word value))

-- YYYY-MM-DDTHH:MM:SSZ (ISO 8601)
abbrev pub time_word : Time → List ℕ
time_word t =
    two (t.year / 100) ++ two (t.year % 100) ++ 45 ∷ two t.month ++ 45 ∷ two t.day ++ 84 ∷ two t.hour ++ 58 ∷ two t.minute ++ 58 ∷ two t.second ++ 90 ∷ []

abbrev pub time_of : Label → Time → List Token → List Token → Type 0
time_of label t = adds (leaf form.Word label (time_word t))

abbrev pub text_of : Label → List ℕ → List Token → List Token → Type 0
text_of label octets = adds (leaf form.Text label octets)

-- the name of a principal, as one text
abbrev pub name_of : Label → List (List ℕ) → List Token → List Token → Type 0
name_of label components = adds (name_token label (name_text components) components)

-- a word, which has no blanks
abbrev pub word_of : Label → List ℕ → List Token → List Token → Type 0
word_of label word = adds (leaf form.Word label word)

abbrev pub octets_of : Label → List ℕ → List Token → List Token → Type 0
octets_of label bytes = adds (leaf form.Octets label bytes)

-- the octets of a key, a password or a PIN, and those that are encrypted
abbrev pub secret_octets_of : Label → List ℕ → List Token → List Token → Type 0
secret_octets_of label bytes = adds (leaf form.Secret label bytes)

abbrev pub cipher_of : Label → List ℕ → List Token → List Token → Type 0
cipher_of label bytes = adds (leaf form.Cipher label bytes)
