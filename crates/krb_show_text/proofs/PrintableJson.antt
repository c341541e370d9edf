-- What JSON is made of is printable.
use Rattle.std.proofs.Common.{◌≡◌, ℕ, suc, ◌<◌, nat_eq, refl, sym, ap, ◌∙◌, List, [], ◌∷◌, ◌++◌, if◌then◌else◌, arith, Bool, true, Option, None, Some, codes}
use Rattle.std.specs.List.{flat_map}
use Rattle.std.specs.Str.{IsUtf8}
use Rattle.std.proofs.lemmas.List.{append_assoc, append-nil}
use Rattle.krb_der_core.specs.Encoding.{IsOctets}
use Rattle.krb_registry.specs.declared.kind.Kind.{Kind}
use Rattle.krb_show_text.specs.declared.escape.Style.TheVariants as style
use Rattle.krb_show.specs.declared.token.Form.{Form}
use Rattle.krb_show.specs.declared.token.Form.TheVariants as form
use Rattle.krb_show.specs.Tokens.{Token}
use Rattle.krb_show.specs.Leaves.{hex}
use Rattle.krb_show_text.specs.Text.{ArePrintable, escaped, escaped_octet, quoted}
use Rattle.krb_show_text.specs.Json.{name_octet, json_names, json_name, json_number, json_flags, json_identifier, json_value, json_key, json_before, json_token, json_tokens, begins, ends, json_line}
use Rattle.krb_show_text.proofs.JsonTexts.{printable_text}
use Rattle.krb_show_text.proofs.Printable.{IsOctetsToken, printable_append, printable_choice, printable_octet, printable_escaped, printable_hex, printable_quoted, line_is_utf8}

name_octet_printable : (octet : ℕ) → octet < 256 → ArePrintable (name_octet octet)
name_octet_printable octet small =
    printable_choice (nat_eq octet 32) (codes "\",\"") (escaped_octet style.Json octet) (λ e. grind arith) (λ e. printable_octet style.Json octet small)

name_octets_printable : (xs : List ℕ) → IsOctets xs → ArePrintable (flat_map name_octet xs)
name_octets_printable [] h = tt
name_octets_printable (x ∷ xs) h = printable_append (name_octet x) (flat_map name_octet xs) (name_octet_printable x (h 0)) (name_octets_printable xs (λ i. h (suc i)))

names_printable : (note : List ℕ) → IsOctets note → ArePrintable (json_names note)
names_printable [] h = grind arith
names_printable (x ∷ xs) h =
    printable_append (codes "[\"" ++ flat_map name_octet xs) (codes "\"]")
    (printable_append (codes "[\"") (flat_map name_octet xs) (grind arith) (name_octets_printable xs (λ i. h (suc i)))) (grind arith)

name_printable : (note : List ℕ) → IsOctets note → ArePrintable (json_name note)
name_printable [] h = grind arith
name_printable (x ∷ xs) h = printable_quoted style.Json xs (λ i. h (suc i))

-- an object of two members
two_members : (a b c d e : List ℕ) → ArePrintable a → ArePrintable b → ArePrintable c → ArePrintable d → ArePrintable e → ArePrintable (a ++ b ++ c ++ d ++ e)
two_members a b c d e p q r s t =
    printable_append (a ++ b ++ c ++ d) e (printable_append (a ++ b ++ c) d (printable_append (a ++ b) c (printable_append a b p q) r) s) t

number_printable : (k : Option Kind) (t : Token) → IsOctetsToken t → ArePrintable (json_number k t)
number_printable None t h = printable_escaped style.Json t.octets h.octets
number_printable (Some kind) t h =
    two_members (codes "{\"number\":") (escaped style.Json t.octets) (codes ",\"name\":") (json_name t.note) (codes "}")
    (grind arith) (printable_escaped style.Json t.octets h.octets) (grind arith) (name_printable t.note h.note) (grind arith)

flags_printable : (k : Option Kind) (t : Token) → IsOctetsToken t → ArePrintable (json_flags k t)
flags_printable None t h = printable_quoted style.Json t.octets h.octets
flags_printable (Some kind) t h =
    two_members (codes "{\"flags\":") (quoted style.Json t.octets) (codes ",\"names\":") (json_names t.note) (codes "}")
    (grind arith) (printable_quoted style.Json t.octets h.octets) (grind arith) (names_printable t.note h.note) (grind arith)

identifier_printable : (t : Token) → IsOctetsToken t → ArePrintable (json_identifier t)
identifier_printable t h =
    two_members (codes "{\"identifier\":") (quoted style.Json t.octets) (codes ",\"name\":") (json_name t.note) (codes "}")
    (grind arith) (printable_quoted style.Json t.octets h.octets) (grind arith) (name_printable t.note h.note) (grind arith)

pub value_printable : (f : Form) (t : Token) → IsOctetsToken t → ArePrintable (json_value f t)
value_printable form.Struct t h = grind arith
value_printable form.StructEnd t h = grind arith
value_printable form.List t h = grind arith
value_printable form.ListEnd t h = grind arith
value_printable form.Number t h = number_printable t.label.kind t h
value_printable form.Flags t h = flags_printable t.label.kind t h
value_printable form.Word t h = printable_quoted style.Json t.octets h.octets
value_printable form.Identifier t h = identifier_printable t h
value_printable form.Text t h = printable_text t.octets h.octets
value_printable form.Octets t h = printable_append (34 ∷ hex t.octets) (34 ∷ []) (grind arith, printable_hex t.octets h.octets) (grind arith)
value_printable form.Secret t h = printable_append (34 ∷ hex t.octets) (34 ∷ []) (grind arith, printable_hex t.octets h.octets) (grind arith)
value_printable form.Cipher t h = printable_append (34 ∷ hex t.octets) (34 ∷ []) (grind arith, printable_hex t.octets h.octets) (grind arith)

key_printable : (t : Token) → IsOctetsToken t → ArePrintable (json_key t.label)
key_printable t h =
    printable_choice t.label.is_item [] (quoted style.Json t.label.text ++ 58 ∷ []) (λ e. tt)
    (λ e. printable_append (quoted style.Json t.label.text) (58 ∷ []) (printable_quoted style.Json t.label.text h.text) (grind arith))

pub before_printable : (first : Bool) (t : Token) → IsOctetsToken t → ArePrintable (json_before first t)
before_printable first t h =
    printable_choice (ends t.form) [] ((if first then [] else 44 ∷ []) ++ json_key t.label) (λ e. tt)
    (λ e. printable_append (if first then [] else 44 ∷ []) (json_key t.label)
    (printable_choice first [] (44 ∷ []) (λ f. tt) (λ f. grind arith)) (key_printable t h))

pub printable_json_token : (first : Bool) (t : Token) → IsOctetsToken t → ArePrintable (json_token first t)
printable_json_token first t h = printable_append (json_before first t) (json_value t.form t) (before_printable first t h) (value_printable t.form t h)

-- whether what follows a page is the first of its struct or list
abbrev pub first_behind : Bool → List Token → Bool
first_behind first [] = first
first_behind first (t ∷ ts) = first_behind (begins t.form) ts

-- a page with one more token
pub json_more : (first : Bool) (page : List Token) (t : Token)
    → json_tokens first (page ++ t ∷ []) ≡ json_tokens first page ++ json_token (first_behind first page) t
json_more first [] t = append-nil (json_token first t)
json_more first (u ∷ us) t =
    ap (λ rest. json_token first u ++ rest) (json_more (begins u.form) us t)
    ∙ sym (append_assoc (json_token first u) (json_tokens (begins u.form) us) (json_token (first_behind (begins u.form) us) t))

pub first_more : (first : Bool) (page : List Token) (t : Token) → first_behind first (page ++ t ∷ []) ≡ begins t.form
first_more first [] t = refl
first_more first (u ∷ us) t = first_more (begins u.form) us t

pub printable_line_of : (page : List Token) → ArePrintable (json_tokens true page) → ArePrintable (json_line page)
printable_line_of page p = printable_append (123 ∷ json_tokens true page) (125 ∷ []) (grind arith, p) (grind arith)

pub json_is_utf8 : (page : List Token) → ArePrintable (json_line page) → IsUtf8 (json_line page ++ 10 ∷ [])
json_is_utf8 page p = line_is_utf8 (json_line page) p
