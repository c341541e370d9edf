-- Labels, tokens and pages.
use Rattle.std.specs.Prelude.{◌≡◌, ℕ, zero, suc, ◌-◌, ℤ, Bool, true, false, nat_lt, if◌then◌else◌, List, [], ◌∷◌, ◌++◌, Option, None, Some, take, length}
use Rattle.krb_message_fields.specs.declared.places.place.Place.{Place}
use Rattle.krb_registry.specs.declared.kind.Kind.{Kind}
use Rattle.krb_schema.specs.declared.shape.Role.{Role}
use Rattle.krb_schema.specs.declared.shape.Role.TheVariants as roles
use Rattle.krb_show.specs.declared.token.Form.{Form}
use Rattle.krb_show.specs.declared.token.Form.TheVariants as form

-- what a value is called, what a number in it is of, what programs do with it, and whether it is an item of a list
pub record Label : Type 0 where
  pub text : List ℕ
  pub kind : Option Kind
  pub role : Role
  pub is_item : Bool

-- beside what is written of it: the number that it is, the components of the name that it is, and the place of the element that it is of
pub record Token : Type 0 where
  pub form : Form
  pub label : Label
  pub octets : List ℕ
  pub note : List ℕ
  pub number : Option ℤ
  pub components : List (List ℕ)
  pub place : Option Place

-- the label of a field whose numbers have no names, of one whose numbers have, and of an item of a list
abbrev pub plain : List ℕ → Label
plain text = record { text = text; kind = None; role = roles.None; is_item = false }

abbrev pub of_kind : List ℕ → Kind → Label
of_kind text kind = record { text = text; kind = Some kind; role = roles.None; is_item = false }

abbrev pub item_of : Label → Label
item_of label = record { text = label.text; kind = label.kind; role = label.role; is_item = true }

-- the second page begins with the first
abbrev pub Begins : List Token → List Token → Type 0
Begins old new = take (length old) new ≡ old

-- the second page is the first, with this token at its end
abbrev pub adds : Token → List Token → List Token → Type 0
adds token old new = new ≡ old ++ token ∷ []

-- a token of these octets and this note that is no number and no name, one without a note, and one without either
abbrev pub noted : Form → Label → List ℕ → List ℕ → Token
noted f label octets note = record { form = f; label = label; octets = octets; note = note; number = None; components = []; place = None }

abbrev pub leaf : Form → Label → List ℕ → Token
leaf f label octets = noted f label octets []

abbrev pub mark : Form → Label → Token
mark f label = noted f label [] []

-- a number with its digits, and a principal's name with its text
abbrev pub number_token : Label → ℤ → List ℕ → List ℕ → Token
number_token label z digits note = record { form = form.Number; label = label; octets = digits; note = note; number = Some z; components = []; place = None }

abbrev pub name_token : Label → List ℕ → List (List ℕ) → Token
name_token label text components = record { form = form.Text; label = label; octets = text; note = []; number = None; components = components; place = None }

-- ---- places

-- the token with this place, and the token at this index with it
abbrev pub placed : Place → Token → Token
placed place t = record t { place = Some place }

abbrev pub placed_at : Place → ℕ → List Token → List Token
placed_at place i [] = []
placed_at place zero (t ∷ ts) = placed place t ∷ ts
placed_at place (suc i) (t ∷ ts) = t ∷ placed_at place i ts

-- with a place, if there is one
abbrev pub placed_where : Option Place → ℕ → List Token → List Token
placed_where None i page = page
placed_where (Some place) i page = placed_at place i page

-- Behind so many tokens the first and the last have this place: one token that is a value, or those where a struct or a list begins and ends.
abbrev pub placed_behind : Place → ℕ → List Token → List Token
placed_behind place n page =
    if nat_lt n (length page) then placed_at place (length page - 1) (placed_at place n page) else page
