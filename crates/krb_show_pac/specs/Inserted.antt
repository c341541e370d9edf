-- Pages with the contents of the buffers of PACs.
use Rattle.std.specs.Prelude.{◌≡◌, ℕ, ℤ, pos, ◌-◌, Bool, true, false, if◌then◌else◌, List, [], Option, None, Some, length}
use Rattle.std.specs.List.{slice_get}
use Rattle.std.specs.Ordering.{int_eq}
use Rattle.krb_message_fields.specs.declared.places.place.Place.{Place}
use Rattle.krb_registry.specs.declared.kind.Kind.{Kind}
use Rattle.krb_registry.specs.declared.kind.Kind.TheVariants as kinds
use Rattle.krb_show.specs.Tokens.{Token}
use Rattle.krb_show.specs.declared.token.Form.{Form}
use Rattle.krb_show.specs.declared.token.Form.TheVariants as form
use Rattle.krb_show.specs.Walk.{walk_of}
use Rattle.krb_show_pac.specs.Contents.{contents_of}
use Rattle.krb_show_pac.specs.Placed.{placed_contents}

-- the kind of the numbers of types of buffers (MS-PAC 2.4, ulType), and of the octets of a buffer
abbrev pub are_types : Option Kind → Bool
are_types (Some kinds.PacBufferType) = true
are_types other = false

-- a number that is a type of a buffer whose contents are shown
abbrev pub type_numbered : ℤ → Option ℕ
type_numbered z =
    if int_eq z (pos 1) then Some 1
    else if int_eq z (pos 6) then Some 6
    else if int_eq z (pos 7) then Some 7
    else if int_eq z (pos 10) then Some 10
    else if int_eq z (pos 12) then Some 12
    else if int_eq z (pos 16) then Some 16
    else if int_eq z (pos 17) then Some 17
    else if int_eq z (pos 18) then Some 18
    else if int_eq z (pos 19) then Some 19
    else None

abbrev pub type_of : Option ℤ → Option ℕ
type_of None = None
type_of (Some z) = type_numbered z

-- the octets of a token that is octets
abbrev pub octets_of_form : Token → Option (List ℕ)
octets_of_form t = by_form t.form
  where
    by_form : Form → Option (List ℕ)
    by_form form.Octets = Some t.octets
    by_form form.Secret = Some t.octets
    by_form other = None

-- the octets of a buffer that a page ends with
abbrev pub octets_in : Option Token → Option (List ℕ)
octets_in None = None
octets_in (Some t) = if are_types t.label.kind then octets_of_form t else None

abbrev pub octets_at : List Token → Option (List ℕ)
octets_at page = octets_in (slice_get page (length page - 1))

-- the place of the token that a page ends with
abbrev pub place_in : Option Token → Option Place
place_in None = None
place_in (Some t) = t.place

abbrev pub place_at : List Token → Option Place
place_at page = place_in (slice_get page (length page - 1))

-- what the contents of a buffer of this type and these octets add, with their places if the buffer has one
abbrev pub with_places : ℕ → List ℕ → Option Place → List Token → List Token → Type 0
with_places ul_type octets place old new =
    (between : List Token) × contents_of ul_type octets old between × placed_contents place octets (length old) between new

abbrev pub contents_at : Option ℕ → Option (List ℕ) → Option Place → List Token → List Token → Type 0
contents_at None octets place old new = new ≡ old
contents_at (Some ul_type) None place old new = new ≡ old
contents_at (Some ul_type) (Some octets) place old new = with_places ul_type octets place old new

-- the number of a type that stands last before the token behind one
abbrev pub behind : Token → Option ℤ → Option ℤ
behind t ul_type = by_form t.form
  where
    by_form : Form → Option ℤ
    by_form form.Number = if are_types t.label.kind then t.number else ul_type
    by_form other = ul_type

-- what is inserted before a token: the contents of the buffer that the page ends with, of the type that stands last
pub record IsInserted (before : Option ℤ) (t : Token) (old : List Token) (after : Option ℤ) (new : List Token) : Type 0 where
  pub contents : contents_at (type_of before) (octets_at old) (place_at old) old new
  pub seen : after ≡ behind t before

-- the second page is the first, with the contents of the buffers of PACs
abbrev pub IsWithContents : List Token → List Token → Type 0
IsWithContents page made = (after : Option ℤ) × walk_of IsInserted None page [] after made
