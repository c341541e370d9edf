-- The text of a page with places: each line, and behind it the place of its token.
use Rattle.std.specs.Prelude.{ℕ, List, [], ◌∷◌, ◌++◌, codes, map, Option, None, Some}
use Rattle.std.specs.Fmt.{decimal}
use Rattle.krb_message_fields.specs.declared.places.place.Place.{Place}
use Rattle.krb_show.specs.declared.token.Form.{Form}
use Rattle.krb_show_text.specs.Text.{depth_after, lines_of, text_of_lines}
use Rattle.krb_show.specs.Tokens.{Token}

-- how many octets stand before the content, and how many it has, in decimal
abbrev pub at_text : Place → List ℕ
at_text place = codes " @" ++ decimal place.offset ++ codes "+" ++ decimal place.size

-- a place behind a line, if there is one
abbrev pub place_text : Option Place → List ℕ
place_text None = []
place_text (Some place) = at_text place

abbrev pub lines_with_place : ℕ → Form → Token → List (List ℕ)
lines_with_place depth f t = map (λ l. l ++ place_text t.place) (lines_of depth f t)

abbrev pub page_lines_with_places : ℕ → List Token → List (List ℕ)
page_lines_with_places depth [] = []
page_lines_with_places depth (t ∷ ts) = lines_with_place depth t.form t ++ page_lines_with_places (depth_after depth t.form) ts

-- the text of a page with places
abbrev pub page_text_with_places : List Token → List ℕ
page_text_with_places page = text_of_lines (page_lines_with_places 0 page)
