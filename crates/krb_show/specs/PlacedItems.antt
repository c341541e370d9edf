-- The tokens of items with their places: where the content of an element stands, its octets behind tag and length (X.690, 8.1.4).
use Rattle.std.specs.Prelude.{◌≡◌, ℕ, List, [], ◌∷◌, Option, length}
use Rattle.krb_message_fields.specs.declared.places.place.Place.{Place}
use Rattle.krb_schema.specs.declared.item.Form.{Form}
use Rattle.krb_schema.specs.declared.item.Form.TheVariants as form
use Rattle.krb_schema.specs.declared.item.Item.{Item}
use Rattle.krb_schema.specs.declared.shape.Leaf.TheVariants as leaves
use Rattle.krb_schema.specs.declared.shape.Role.{Role}
use Rattle.krb_schema.specs.declared.shape.Role.TheVariants as roles
use Rattle.krb_schema.specs.Rules.{content_of}
use Rattle.krb_show.specs.Items.{Stand, step}
use Rattle.krb_show.specs.Spots.{is_plain, spotted}
use Rattle.krb_show.specs.Tokens.{Label, Token, placed_behind}

-- where the content of an item is, which is its octets behind tag and length
abbrev pub place_of : Item → Place
place_of i = record { offset = i.offset; size = i.size }

-- How octets of formats that are no DER are told, and the places in them of what is told of them: by what they are to a program and the content of
-- the INTEGER that stands last before them.
abbrev pub Telling : Type 1
Telling = Role → List ℕ → Label → List ℕ → List Token → List Token → Type 0

abbrev pub Placing : Type 1
Placing = Role → List ℕ → List ℕ → List (Option Place) → Type 0

module _ (tells : Telling) (places : Placing) where
  -- the places in octets that are more than that to a program; there are none in others
  abbrev pub format_places : Role → List ℕ → List ℕ → List (Option Place) → Type 0
  format_places roles.None number octets inner = inner ≡ []
  format_places role number octets inner = places role number octets inner

  -- the places in the octets of an element of this form
  abbrev pub inner_places : Form → Role → List ℕ → List ℕ → List (Option Place) → Type 0
  inner_places (form.Leaf leaves.Octets) role number octets inner = format_places role number octets inner
  inner_places other role number octets inner = inner ≡ []

  -- what an item adds: of octets of a format that is no DER each token with its place where these octets are what it tells; and then all of it with the
  -- item's own place
  abbrev pub step_with_place : List ℕ → Item → List Item → Stand → List Token → Stand → List Token → Type 0
  step_with_place octets i rest s old next new =
      (between : List Token) × (inner : List (Option Place)) × step tells octets i rest s old next between
      × inner_places i.form i.name.role s.number (content_of octets i) inner
      × (new ≡ placed_behind (place_of i) (length old) (spotted is_plain i.offset (content_of octets i) (length old) inner between))

  -- the tokens of items, with their places
  abbrev pub shown_with_places : List ℕ → List Item → Stand → List Token → List Token → Type 0
  shown_with_places octets [] s old new = new ≡ old
  shown_with_places octets (i ∷ rest) s old new =
      (next : Stand) × (between : List Token) × step_with_place octets i rest s old next between × shown_with_places octets rest next between new
