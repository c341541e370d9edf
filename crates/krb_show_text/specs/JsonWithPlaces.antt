-- A page with places as JSON (RFC 8259): a value that has a place is the member `value` of an object beside that place.
use Rattle.std.specs.Prelude.{ℕ, Bool, true, if◌then◌else◌, List, [], ◌∷◌, ◌++◌, codes, Option, None, Some}
use Rattle.std.specs.Fmt.{decimal}
use Rattle.krb_message_fields.specs.declared.places.place.Place.{Place}
use Rattle.krb_show_text.specs.Json.{begins, ends, json_before, json_value}
use Rattle.krb_show.specs.Tokens.{Token}

-- the begin of such an object, up to its member `value`, and its end
abbrev pub place_begin : Option Place → List ℕ
place_begin None = []
place_begin (Some place) =
    codes "{\"offset\":" ++ decimal place.offset ++ codes ",\"size\":" ++ decimal place.size ++ codes ",\"value\":"

abbrev pub place_end : Option Place → List ℕ
place_end None = []
place_end (Some place) = codes "}"

-- it stands before a value, and behind it: of a struct or a list before its begin and behind its end
abbrev pub before_value : Token → List ℕ
before_value t = if ends t.form then [] else place_begin t.place

abbrev pub behind_value : Token → List ℕ
behind_value t = if begins t.form then [] else place_end t.place

abbrev pub json_token_with_place : Bool → Token → List ℕ
json_token_with_place first t = json_before first t ++ before_value t ++ json_value t.form t ++ behind_value t

abbrev pub json_tokens_with_places : Bool → List Token → List ℕ
json_tokens_with_places first [] = []
json_tokens_with_places first (t ∷ ts) = json_token_with_place first t ++ json_tokens_with_places (begins t.form) ts

-- an object whose one member is the page's value
abbrev pub json_line_with_places : List Token → List ℕ
json_line_with_places page = 123 ∷ json_tokens_with_places true page ++ 125 ∷ []
