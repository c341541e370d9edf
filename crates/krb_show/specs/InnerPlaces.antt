-- The places of what a row shows of octets, in octets in which so many others stand before these. No standard has places: an
-- offset is how many octets stand before, a size how many there are.
use Rattle.std.specs.Prelude.{◌≡◌, ℕ, ◌+◌, ◌-◌, ◌^◌, min, List, [], ◌∷◌, Option, None, Some, length, map}
use Rattle.krb_message_fields.specs.declared.places.place.Place.{Place}
use Rattle.krb_show.specs.Items.{start}
use Rattle.krb_show.specs.PlacedItems.{Placing, Telling, shown_with_places}
use Rattle.krb_show.specs.RowWalk.{IsWalkBy}
use Rattle.krb_show.specs.Tokens.{Token}
use Rattle.krb_show.specs.declared.rows.stand.Secrets.TheVariants as secrets
use Rattle.krb_show.specs.declared.rows.walk.Walk.{Walk}
use Rattle.krb_show.specs.declared.rows.walk.Walk.TheVariants as walks

-- so many octets behind so many others
abbrev pub place_at : ℕ → ℕ → Option Place
place_at offset size = Some (record { offset = offset; size = size })

-- a place behind so many octets more; an offset past the largest number of 64 bits is that
abbrev pub place_behind : ℕ → Option Place → Option Place
place_behind base None = None
place_behind base (Some p) = Some (record { offset = min (base + p.offset) (2 ^ 64 - 1); size = p.size })

-- those of tokens
abbrev pub places_behind : ℕ → List Token → List (Option Place)
places_behind base page = map (λ t. place_behind base t.place) page

module _ (tells : Telling) (places : Placing) where
  -- by a walk: those of the tokens of its items; and where the octets are no element of the row, that of all octets
  abbrev pub walk_places : ℕ → List ℕ → Walk → List (Option Place) → Type 0
  walk_places base octets (walks.Items items) made =
      (page : List Token) × shown_with_places tells places octets items.items (start secrets.Shown) [] page × (made ≡ places_behind base page)
  walk_places base octets walk made = made ≡ place_at base (length octets) ∷ []

  -- by the row of a name
  pub record ArePlacesByRow (row_name : List ℕ) (base : ℕ) (octets : List ℕ) (made : List (Option Place)) : Type 0 where
    pub walk : Walk
    pub is_walk : IsWalkBy row_name row_name octets walk
    pub are_places : walk_places base octets walk made
