-- What lines are made of is printable.
use Rattle.std.proofs.Common.{◌≡◌, ℕ, zero, suc, ◌+◌, ◌/◌, ◌%◌, ◌<◌, ◌^◌, sym, subst, map, nat_eq, refl, List, [], ◌∷◌, ◌++◌, ◌||◌, if◌then◌else◌, arith, Bool, true, false, codes, length}
use Rattle.std.specs.Fmt.{decimal}
use Rattle.std.specs.Int.Digits.{digits_of, AllBelowBase}
use Rattle.std.proofs.lemmas.Fmt.{decimal-digits_of, decimal_digit}
use Rattle.std.proofs.lemmas.Int.Digits.{all_below_base_digits_of}
use Rattle.std.proofs.lemmas.Grind.{common_steps}
use Rattle.std.specs.Str.{IsAscii, IsUtf8}
use Rattle.std.proofs.lemmas.Str.{IsAscii-append, IsUtf8-from_ascii}
use Rattle.std.proofs.lemmas.Str.Ascii.{IsAscii-nil, IsAscii-cons}
use Rattle.krb_der_core.specs.Encoding.{IsOctets}
use Rattle.krb_show_text.specs.declared.escape.Style.{Style}
use Rattle.krb_show_text.specs.declared.escape.Style.TheVariants as style
use Rattle.krb_show.specs.declared.token.Form.{Form}
use Rattle.krb_show.specs.declared.token.Form.TheVariants as form
use Rattle.krb_show.specs.Tokens.{Token}
use Rattle.krb_show.specs.Leaves.{digit, hex_octet, hex}
use Rattle.krb_show_text.specs.Text.{IsPrintable, ArePrintable, is_printable, itself_or, escaped_octet, escaped, quoted, indent, spaced_hex, octets_text, word_text, value_text, line, AreLines, text_of_lines}

pub printable_append : (xs ys : List ℕ) → ArePrintable xs → ArePrintable ys → ArePrintable (xs ++ ys)
printable_append [] ys p q = q
printable_append (x ∷ xs) ys p q = (p.0, printable_append xs ys p.1 q)

printable_digit : (n : ℕ) → n < 16 → IsPrintable (digit n)
printable_digit n small = grind (arith, common_steps)

pub printable_hex_octet : (octet : ℕ) → octet < 256 → ArePrintable (hex_octet octet)
printable_hex_octet octet small = (printable_digit (octet / 16) (omega (arith, small)), (printable_digit (octet % 16) (omega (arith, small)), tt))

printable_itself : (octet : ℕ) → is_printable octet ≡ true → IsPrintable octet
printable_itself octet e = grind (arith, common_steps)

pub printable_choice : (b : Bool) (xs ys : List ℕ) → (b ≡ true → ArePrintable xs) → (b ≡ false → ArePrintable ys) → ArePrintable (if b then xs else ys)
printable_choice true xs ys p q = p refl
printable_choice false xs ys p q = q refl

printable_itself_or : (before : List ℕ) (octet : ℕ) → ArePrintable before → octet < 256 → ArePrintable (itself_or before octet)
printable_itself_or before octet p small =
    printable_choice (is_printable octet) (octet ∷ []) (before ++ hex_octet octet) (λ e. (printable_itself octet e, tt))
    (λ e. printable_append before (hex_octet octet) p (printable_hex_octet octet small))

backslash_x : ArePrintable (codes "\\x")
backslash_x = grind arith

backslash_u : ArePrintable (codes "\\u00")
backslash_u = grind arith

special : (octet : ℕ) → nat_eq octet 34 || nat_eq octet 92 ≡ true → IsPrintable octet
special octet e = grind (arith, common_steps)

in_quotation : (before : List ℕ) (octet : ℕ) → ArePrintable before → octet < 256
    → ArePrintable (if nat_eq octet 34 || nat_eq octet 92 then 92 ∷ octet ∷ [] else itself_or before octet)
in_quotation before octet p small =
    printable_choice (nat_eq octet 34 || nat_eq octet 92) (92 ∷ octet ∷ []) (itself_or before octet) (λ e. (grind arith, (special octet e, tt)))
    (λ e. printable_itself_or before octet p small)

pub printable_octet : (s : Style) (octet : ℕ) → octet < 256 → ArePrintable (escaped_octet s octet)
printable_octet style.Plain octet small = printable_itself_or (codes "\\x") octet backslash_x small
printable_octet style.Name octet small =
    printable_choice (nat_eq octet 32 || nat_eq octet 58 || nat_eq octet 92) (codes "\\x" ++ hex_octet octet) (itself_or (codes "\\x") octet)
    (λ e. printable_append (codes "\\x") (hex_octet octet) backslash_x (printable_hex_octet octet small)) (λ e. printable_itself_or (codes "\\x") octet backslash_x small)
printable_octet style.Quoted octet small = in_quotation (codes "\\x") octet backslash_x small
printable_octet style.Json octet small = in_quotation (codes "\\u00") octet backslash_u small

pub printable_escaped : (s : Style) (xs : List ℕ) → IsOctets xs → ArePrintable (escaped s xs)
printable_escaped s [] h = tt
printable_escaped s (x ∷ xs) h = printable_append (escaped_octet s x) (escaped s xs) (printable_octet s x (h 0)) (printable_escaped s xs (λ i. h (suc i)))

pub printable_hex : (xs : List ℕ) → IsOctets xs → ArePrintable (hex xs)
printable_hex [] h = tt
printable_hex (x ∷ xs) h = printable_append (hex_octet x) (hex xs) (printable_hex_octet x (h 0)) (printable_hex xs (λ i. h (suc i)))

printable_indent : (depth : ℕ) → ArePrintable (indent depth)
printable_indent zero = tt
printable_indent (suc depth) = printable_append (indent depth) (32 ∷ 32 ∷ []) (printable_indent depth) (grind arith)

pub printable_quoted : (s : Style) (xs : List ℕ) → IsOctets xs → ArePrintable (quoted s xs)
printable_quoted s xs h = (grind arith, printable_append (escaped s xs) (34 ∷ []) (printable_escaped s xs h) (grind arith))

printable_spaced_hex : (xs : List ℕ) → IsOctets xs → ArePrintable (spaced_hex xs)
printable_spaced_hex [] h = tt
printable_spaced_hex (x ∷ xs) h = (grind arith, printable_hex (x ∷ xs) h)

printable_octets : (xs : List ℕ) → ArePrintable (decimal (length xs)) → IsOctets xs → ArePrintable (octets_text xs)
printable_octets xs d h = printable_append (decimal (length xs) ++ codes " octets") (spaced_hex xs) (printable_append (decimal (length xs)) (codes " octets") d (grind arith)) (printable_spaced_hex xs h)

printable_digits : (ds : List ℕ) → AllBelowBase 10 ds → ArePrintable (map (λ d. 48 + d) ds)
printable_digits [] h = tt
printable_digits (d ∷ ds) h = ((omega (arith, h.0), omega (arith, h.0)), printable_digits ds h.1)

pub printable_decimal : (n : ℕ) → n < 2 ^ 64 → ArePrintable (decimal n)
printable_decimal zero fits = subst ArePrintable (sym (decimal_digit 0 (omega arith))) ((omega arith, omega arith), tt)
printable_decimal (suc n) fits = subst ArePrintable (sym (decimal-digits_of (suc n) (omega arith) fits)) (printable_digits (digits_of 10 (suc n)) (all_below_base_digits_of 10 (suc n) (omega arith)))

-- what a token holds are octets, and so many that their number fits 64 bits
pub record IsOctetsToken (t : Token) : Type 0 where
  pub text : IsOctets t.label.text
  pub octets : IsOctets t.octets
  pub note : IsOctets t.note
  pub count : length t.octets < 2 ^ 64

printable_word : (t : Token) → IsOctetsToken t → ArePrintable (word_text t)
printable_word t h = printable_append (escaped style.Plain t.octets) (escaped style.Plain t.note) (printable_escaped style.Plain t.octets h.octets) (printable_escaped style.Plain t.note h.note)

printable_value : (f : Form) (t : Token) → IsOctetsToken t → ArePrintable (value_text f t)
printable_value form.Struct t h = grind arith
printable_value form.StructEnd t h = tt
printable_value form.List t h = printable_append (91 ∷ escaped style.Plain t.octets) (codes "]:") (grind arith, printable_escaped style.Plain t.octets h.octets) (grind arith)
printable_value form.ListEnd t h = tt
printable_value form.Number t h = printable_append (codes ": ") (word_text t) (grind arith) (printable_word t h)
printable_value form.Flags t h = printable_append (codes ": ") (word_text t) (grind arith) (printable_word t h)
printable_value form.Word t h = printable_append (codes ": ") (word_text t) (grind arith) (printable_word t h)
printable_value form.Identifier t h = printable_append (codes ": ") (word_text t) (grind arith) (printable_word t h)
printable_value form.Text t h = printable_append (codes ": ") (quoted style.Quoted t.octets) (grind arith) (printable_quoted style.Quoted t.octets h.octets)
printable_value form.Octets t h = printable_append (codes ": ") (octets_text t.octets) (grind arith) (printable_octets t.octets (printable_decimal (length t.octets) h.count) h.octets)
printable_value form.Secret t h = printable_append (codes ": ") (octets_text t.octets) (grind arith) (printable_octets t.octets (printable_decimal (length t.octets) h.count) h.octets)
printable_value form.Cipher t h = printable_append (codes ": ") (octets_text t.octets) (grind arith) (printable_octets t.octets (printable_decimal (length t.octets) h.count) h.octets)

pub printable_line : (depth : ℕ) (t : Token) → IsOctetsToken t → ArePrintable (line depth t)
printable_line depth t h =
    printable_append (indent depth ++ escaped style.Name t.label.text) (value_text t.form t)
    (printable_append (indent depth) (escaped style.Name t.label.text) (printable_indent depth) (printable_escaped style.Name t.label.text h.text))
    (printable_value t.form t h)

-- printable octets are ASCII, and so are lines of them
pub printable_ascii : (xs : List ℕ) → ArePrintable xs → IsAscii xs
printable_ascii [] p = IsAscii-nil
printable_ascii (x ∷ xs) p = IsAscii-cons x xs (omega (arith, p.0.1)) (printable_ascii xs p.1)

line_feed : IsAscii (10 ∷ [])
line_feed = IsAscii-cons 10 [] (omega arith) IsAscii-nil

lines_ascii : (ls : List (List ℕ)) → AreLines ls → IsAscii (text_of_lines ls)
lines_ascii [] p = IsAscii-nil
lines_ascii (l ∷ ls) p = IsAscii-append (l ++ 10 ∷ []) (text_of_lines ls) (IsAscii-append l (10 ∷ []) (printable_ascii l p.0) line_feed) (lines_ascii ls p.1)

pub text_is_utf8 : (ls : List (List ℕ)) → AreLines ls → IsUtf8 (text_of_lines ls)
text_is_utf8 ls p = IsUtf8-from_ascii (text_of_lines ls) (lines_ascii ls p)

pub line_is_utf8 : (l : List ℕ) → ArePrintable l → IsUtf8 (l ++ 10 ∷ [])
line_is_utf8 l p = IsUtf8-from_ascii (l ++ 10 ∷ []) (IsAscii-append l (10 ∷ []) (printable_ascii l p) line_feed)
