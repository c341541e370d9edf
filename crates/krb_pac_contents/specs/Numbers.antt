-- Numbers at a place among octets, in little-endian order.
use Rattle.std.specs.Prelude.{ℕ, zero, suc, List, [], ◌∷◌, drop}
use Rattle.byteorder.specs.Endian.{little_number}

-- the number of two octets, of four, and of eight, at a place
abbrev pub short_at : ℕ → List ℕ → ℕ
short_at at b = little_number 2 (drop at b)

abbrev pub long_at : ℕ → List ℕ → ℕ
long_at at b = little_number 4 (drop at b)

abbrev pub quad_at : ℕ → List ℕ → ℕ
quad_at at b = little_number 8 (drop at b)

-- the values of n elements, each of so many octets
unfoldable pub elements_of : {A : Type 0} → ℕ → (List ℕ → A) → ℕ → List ℕ → List A
elements_of width value zero b = []
elements_of width value (suc n) b = value b ∷ elements_of width value n (drop width b)

-- n numbers of four octets
abbrev pub longs : ℕ → List ℕ → List ℕ
longs n b = elements_of 4 (long_at 0) n b
