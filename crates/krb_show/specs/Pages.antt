-- What pages are after values are appended, as relations of the page before and the page after.
use Rattle.std.specs.Prelude.{◌≡◌, List, [], ◌∷◌, Option, None, Some, length}
use Rattle.std.specs.Fmt.{decimal}
use Rattle.krb_show.specs.declared.token.Form.TheVariants as form
use Rattle.krb_show.specs.Tokens.{Label, Token, adds, item_of, leaf, mark}

infixl 20 ◌then◌
-- the one, then the other
abbrev pub ◌then◌ : (List Token → List Token → Type 0) → (List Token → List Token → Type 0) → List Token → List Token → Type 0
(first then second) old new = (between : List Token) × first old between × second between new

-- what is absent adds nothing
abbrev pub optional_of : {A : Type 0} → (A → List Token → List Token → Type 0) → Option A → List Token → List Token → Type 0
optional_of shows None old new = new ≡ old
optional_of shows (Some v) old new = shows v old new

-- each of these, in order
abbrev pub each_of : {A : Type 0} → (A → List Token → List Token → Type 0) → List A → List Token → List Token → Type 0
each_of shows [] old new = new ≡ old
each_of shows (v ∷ vs) old new = (shows v then each_of shows vs) old new

abbrev pub ends_struct : Label → List Token → List Token → Type 0
ends_struct label = adds (mark form.StructEnd label)

-- a struct: its fields stand between its begin and its end
abbrev pub struct_of : Label → (List Token → List Token → Type 0) → List Token → List Token → Type 0
struct_of label fields = adds (mark form.Struct label) then (fields then ends_struct label)

abbrev pub ends_list : Label → List Token → List Token → Type 0
ends_list label = adds (mark form.ListEnd label)

-- a list: its number of items, in decimal, and the items
abbrev pub list_of : {A : Type 0} → (Label → A → List Token → List Token → Type 0) → Label → List A → List Token → List Token → Type 0
list_of shows label items = adds (leaf form.List label (decimal (length items))) then (each_of (shows (item_of label)) items then ends_list label)
