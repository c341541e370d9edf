-- Pages as JSON with places: a struct or a list that begins as a value with a place has to end as one.
use Rattle.std.specs.Prelude.{ℕ, ◌-◌, Bool, true, false, if◌then◌else◌, ◌&&◌, List, [], ◌∷◌, ◌++◌, Option, None, Some, length, take}
use Rattle.std.specs.List.{slice_get}
use Rattle.krb_show_text.specs.Json.{json_line}
use Rattle.krb_show_text.specs.JsonWithPlaces.{json_line_with_places}
use Rattle.krb_show.specs.Tokens.{Token}
use Rattle.krb_show.specs.declared.token.Form.{Form}
use Rattle.krb_show.specs.declared.token.Form.TheVariants as form
use Rattle.krb_show_any.specs.Placed.{has_place}

-- whether a token begins a struct or a list, or ends one
abbrev pub begins : Form → Bool
begins form.Struct = true
begins form.List = true
begins other = false

abbrev pub ends : Form → Bool
ends form.StructEnd = true
ends form.ListEnd = true
ends other = false

-- what begins last has a place as its end has, or neither has
abbrev pub is_same : Option Bool → Bool → Bool
is_same None other = false
is_same (Some true) other = other
is_same (Some false) true = false
is_same (Some false) false = true

-- Of those that have begun and not ended, the innermost last, it is known whether they have a place; each end has one if its begin has.
abbrev pub are_paired : List Bool → List Token → Bool
are_paired begun [] = true
are_paired begun (t ∷ ts) =
    if begins t.form then are_paired (begun ++ has_place t.place ∷ []) ts
    else if ends t.form
    then is_same (slice_get begun (length begun - 1)) (has_place t.place) && are_paired (take (length begun - 1) begun) ts
    else are_paired begun ts

-- a page as a line of JSON with places, and without if they are not so
abbrev pub line_by : Bool → List Token → List ℕ
line_by true page = json_line_with_places page
line_by false page = json_line page

abbrev pub paired_line : List Token → List ℕ
paired_line page = line_by (are_paired [] page) page
