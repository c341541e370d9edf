-- Some octets of an input, by their place.
use Rattle.std.specs.Prelude.{◌+◌, ◌≤◌, ℕ, List, length, take, drop}
use Rattle.krb_message_fields.specs.declared.places.place.Place.{Place}

-- the octets at a place
abbrev pub octets_at : List ℕ → Place → List ℕ
octets_at octets place = take place.size (drop place.offset octets)

-- the place is within, and what stands there is right, after so many octets
pub record IsAt (is_right : ℕ → List ℕ → Type 0) (octets : List ℕ) (place : Place) : Type 0 where
  pub leads : is_right place.offset (octets_at octets place)
  pub inside : place.offset + place.size ≤ length octets
