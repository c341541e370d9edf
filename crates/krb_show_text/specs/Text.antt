-- The text of a page: a line for each value, indented by how far in it is.
use Rattle.std.specs.Prelude.{ℕ, zero, suc, ◌-◌, ◌+◌, ◌≤◌, nat_le, nat_eq, if◌then◌else◌, Bool, ◌&&◌, ◌||◌, List, [], ◌∷◌, ◌++◌, codes, length}
use Rattle.std.specs.List.{flat_map, AllByRecursion}
use Rattle.std.specs.Fmt.{decimal}
use Rattle.krb_show_text.specs.declared.escape.Style.{Style}
use Rattle.krb_show_text.specs.declared.escape.Style.TheVariants as style
use Rattle.krb_show.specs.declared.token.Form.{Form}
use Rattle.krb_show.specs.declared.token.Form.TheVariants as form
use Rattle.krb_show.specs.Tokens.{Token}
use Rattle.krb_show.specs.Leaves.{hex_octet, hex}

-- ---- octets as printable ASCII

-- from the space to `~`
abbrev pub is_printable : ℕ → Bool
is_printable octet = nat_le 32 octet && nat_le octet 126

abbrev pub IsPrintable : ℕ → Type 0
IsPrintable octet = (32 ≤ octet) × (octet ≤ 126)

abbrev pub ArePrintable : List ℕ → Type 0
ArePrintable = AllByRecursion IsPrintable

-- an octet that is printed as itself, or as its two digits behind this
abbrev pub itself_or : List ℕ → ℕ → List ℕ
itself_or before octet = if is_printable octet then octet ∷ [] else before ++ hex_octet octet

-- How an octet is written. In a name neither the blank nor `:` or `\` is itself; in quotation marks `"` and `\` stand behind a `\`; in
-- JSON (RFC 8259, 7) too, and what is not printable is the character of its number.
abbrev pub escaped_octet : Style → ℕ → List ℕ
escaped_octet style.Plain octet = itself_or (codes "\\x") octet
escaped_octet style.Name octet =
    if nat_eq octet 32 || nat_eq octet 58 || nat_eq octet 92 then codes "\\x" ++ hex_octet octet else itself_or (codes "\\x") octet
escaped_octet style.Quoted octet = if nat_eq octet 34 || nat_eq octet 92 then 92 ∷ octet ∷ [] else itself_or (codes "\\x") octet
escaped_octet style.Json octet = if nat_eq octet 34 || nat_eq octet 92 then 92 ∷ octet ∷ [] else itself_or (codes "\\u00") octet

abbrev pub escaped : Style → List ℕ → List ℕ
escaped style octets = flat_map (escaped_octet style) octets

-- in quotation marks
abbrev pub quoted : Style → List ℕ → List ℕ
quoted style octets = 34 ∷ escaped style octets ++ 34 ∷ []

-- ---- lines

-- two spaces for each level
abbrev pub indent : ℕ → List ℕ
indent zero = []
indent (suc depth) = indent depth ++ 32 ∷ 32 ∷ []

-- octets in hexadecimal, behind a blank, if there are any
abbrev pub spaced_hex : List ℕ → List ℕ
spaced_hex [] = []
spaced_hex (octet ∷ octets) = 32 ∷ hex (octet ∷ octets)

-- how many octets, and these in hexadecimal
abbrev pub octets_text : List ℕ → List ℕ
octets_text octets = decimal (length octets) ++ codes " octets" ++ spaced_hex octets

-- a word, and what stands beside it
abbrev pub word_text : Token → List ℕ
word_text t = escaped style.Plain t.octets ++ escaped style.Plain t.note

-- what stands on the line of a token behind its name: a struct has its fields below, a list its number of items beside its name and
-- the items below
abbrev pub value_text : Form → Token → List ℕ
value_text form.Struct t = codes ":"
value_text form.StructEnd t = []
value_text form.List t = 91 ∷ escaped style.Plain t.octets ++ codes "]:"
value_text form.ListEnd t = []
value_text form.Number t = codes ": " ++ word_text t
value_text form.Flags t = codes ": " ++ word_text t
value_text form.Word t = codes ": " ++ word_text t
value_text form.Identifier t = codes ": " ++ word_text t
value_text form.Text t = codes ": " ++ quoted style.Quoted t.octets
value_text form.Octets t = codes ": " ++ octets_text t.octets
value_text form.Secret t = codes ": " ++ octets_text t.octets
value_text form.Cipher t = codes ": " ++ octets_text t.octets

abbrev pub line : ℕ → Token → List ℕ
line depth t = indent depth ++ escaped style.Name t.label.text ++ value_text t.form t

-- an end has no line
abbrev pub lines_of : ℕ → Form → Token → List (List ℕ)
lines_of depth form.Struct t = line depth t ∷ []
lines_of depth form.StructEnd t = []
lines_of depth form.List t = line depth t ∷ []
lines_of depth form.ListEnd t = []
lines_of depth form.Number t = line depth t ∷ []
lines_of depth form.Flags t = line depth t ∷ []
lines_of depth form.Word t = line depth t ∷ []
lines_of depth form.Identifier t = line depth t ∷ []
lines_of depth form.Text t = line depth t ∷ []
lines_of depth form.Octets t = line depth t ∷ []
lines_of depth form.Secret t = line depth t ∷ []
lines_of depth form.Cipher t = line depth t ∷ []

-- how far in the next token is
abbrev pub depth_after : ℕ → Form → ℕ
depth_after depth form.Struct = depth + 1
depth_after depth form.StructEnd = depth - 1
depth_after depth form.List = depth + 1
depth_after depth form.ListEnd = depth - 1
depth_after depth form.Number = depth
depth_after depth form.Flags = depth
depth_after depth form.Word = depth
depth_after depth form.Identifier = depth
depth_after depth form.Text = depth
depth_after depth form.Octets = depth
depth_after depth form.Secret = depth
depth_after depth form.Cipher = depth

abbrev pub page_lines : ℕ → List Token → List (List ℕ)
page_lines depth [] = []
page_lines depth (t ∷ ts) = lines_of depth t.form t ++ page_lines (depth_after depth t.form) ts

-- lines, each with a line feed behind it
abbrev pub text_of_lines : List (List ℕ) → List ℕ
text_of_lines lines = flat_map (λ l. l ++ 10 ∷ []) lines

-- each line is printable, so that a line feed stands at the end of each and nowhere else
abbrev pub AreLines : List (List ℕ) → Type 0
AreLines lines = AllByRecursion ArePrintable lines

-- the text of a page
abbrev pub page_text : List Token → List ℕ
page_text page = text_of_lines (page_lines 0 page)
