-- A page as JSON (RFC 8259).
use Rattle.std.specs.Prelude.{ℕ, ◌/◌, ◌%◌, nat_eq, nat_lt, if◌then◌else◌, Bool, true, false, List, [], ◌∷◌, ◌++◌, codes, Option, None, Some}
use Rattle.std.specs.List.{flat_map}
use Rattle.std.specs.Char.Escape.{encode_utf16}
use Rattle.std.specs.Str.{chars, is_utf8}
use Rattle.krb_registry.specs.declared.kind.Kind.{Kind}
use Rattle.krb_show_text.specs.declared.escape.Style.TheVariants as style
use Rattle.krb_show.specs.declared.token.Form.{Form}
use Rattle.krb_show.specs.declared.token.Form.TheVariants as form
use Rattle.krb_show.specs.Tokens.{Label, Token}
use Rattle.krb_show.specs.Leaves.{hex, hex_octet}
use Rattle.krb_show_text.specs.Text.{escaped, escaped_octet, quoted}

-- a unit of UTF-16 by its four digits
abbrev pub json_unit : ℕ → List ℕ
json_unit unit = codes "\\u" ++ hex_octet (unit / 256) ++ hex_octet (unit % 256)

-- a character in a string (RFC 8259, 7): one of ASCII as its octet, another by its one or two units of UTF-16
abbrev pub json_character : ℕ → List ℕ
json_character c = if nat_lt c 128 then escaped_octet style.Json c else flat_map json_unit (encode_utf16 c)

-- The characters of a text if its octets are UTF-8 (RFC 3629, 3). Octets that are not have no characters: each is taken as the character
-- of its number (ISO 8859-1).
abbrev pub json_characters : List ℕ → List ℕ
json_characters octets = if is_utf8 octets then flat_map json_character (chars octets) else escaped style.Json octets

abbrev pub json_text : List ℕ → List ℕ
json_text octets = 34 ∷ json_characters octets ++ 34 ∷ []

-- names, each behind a blank, as an array of strings
abbrev pub name_octet : ℕ → List ℕ
name_octet octet = if nat_eq octet 32 then codes "\",\"" else escaped_octet style.Json octet

abbrev pub json_names : List ℕ → List ℕ
json_names [] = codes "[]"
json_names (blank ∷ names) = codes "[\"" ++ flat_map name_octet names ++ codes "\"]"

-- a name behind a blank as a string, or null where there is none
abbrev pub json_name : List ℕ → List ℕ
json_name [] = codes "null"
json_name (blank ∷ name) = quoted style.Json name

-- what has names is an object: with a number its name, with flags their names
abbrev pub json_number : Option Kind → Token → List ℕ
json_number None t = escaped style.Json t.octets
json_number (Some kind) t = codes "{\"number\":" ++ escaped style.Json t.octets ++ codes ",\"name\":" ++ json_name t.note ++ codes "}"

abbrev pub json_flags : Option Kind → Token → List ℕ
json_flags None t = quoted style.Json t.octets
json_flags (Some kind) t = codes "{\"flags\":" ++ quoted style.Json t.octets ++ codes ",\"names\":" ++ json_names t.note ++ codes "}"

abbrev pub json_identifier : Token → List ℕ
json_identifier t = codes "{\"identifier\":" ++ quoted style.Json t.octets ++ codes ",\"name\":" ++ json_name t.note ++ codes "}"

-- what stands behind the key of a token: octets are a string of their digits
abbrev pub json_value : Form → Token → List ℕ
json_value form.Struct t = codes "{"
json_value form.StructEnd t = codes "}"
json_value form.List t = codes "["
json_value form.ListEnd t = codes "]"
json_value form.Number t = json_number t.label.kind t
json_value form.Flags t = json_flags t.label.kind t
json_value form.Word t = quoted style.Json t.octets
json_value form.Identifier t = json_identifier t
json_value form.Text t = json_text t.octets
json_value form.Octets t = 34 ∷ hex t.octets ++ 34 ∷ []
json_value form.Secret t = 34 ∷ hex t.octets ++ 34 ∷ []
json_value form.Cipher t = 34 ∷ hex t.octets ++ 34 ∷ []

abbrev pub ends : Form → Bool
ends form.StructEnd = true
ends form.ListEnd = true
ends form.Struct = false
ends form.List = false
ends form.Number = false
ends form.Flags = false
ends form.Word = false
ends form.Identifier = false
ends form.Text = false
ends form.Octets = false
ends form.Secret = false
ends form.Cipher = false

abbrev pub begins : Form → Bool
begins form.StructEnd = false
begins form.ListEnd = false
begins form.Struct = true
begins form.List = true
begins form.Number = false
begins form.Flags = false
begins form.Word = false
begins form.Identifier = false
begins form.Text = false
begins form.Octets = false
begins form.Secret = false
begins form.Cipher = false

-- a field has its name as its key, an item of a list has none
abbrev pub json_key : Label → List ℕ
json_key label = if label.is_item then [] else quoted style.Json label.text ++ 58 ∷ []

-- what stands before a value: a comma, unless it is the first of its struct or list, and its key
abbrev pub json_before : Bool → Token → List ℕ
json_before first t = if ends t.form then [] else (if first then [] else 44 ∷ []) ++ json_key t.label

abbrev pub json_token : Bool → Token → List ℕ
json_token first t = json_before first t ++ json_value t.form t

abbrev pub json_tokens : Bool → List Token → List ℕ
json_tokens first [] = []
json_tokens first (t ∷ ts) = json_token first t ++ json_tokens (begins t.form) ts

-- an object whose one member is the page's value
abbrev pub json_line : List Token → List ℕ
json_line page = 123 ∷ json_tokens true page ++ 125 ∷ []
