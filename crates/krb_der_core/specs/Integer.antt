-- Whole numbers as octets: two's complement in base 256, the highest octet first (X.690, 8.3).
use Rattle.std.specs.Prelude.{◌≡◌, ℕ, ◌-◌, ◌<◌, ◌≤◌, List, [], ◌∷◌, ◌++◌, length, take, slice_index, nat_lt, if◌then◌else◌, ℤ, pos, negsuc}
use Rattle.std.specs.Int.Digits.{digits_of, number_from_digits}

-- a zero before octets that would represent a negative number, or before none
abbrev pub signed_prefix : List ℕ → List ℕ
signed_prefix [] = 0 ∷ []
signed_prefix (d ∷ ds) = if nat_lt d 128 then d ∷ ds else 0 ∷ d ∷ ds

-- the shortest octets of a number that is not negative
unfoldable pub unsigned : ℕ → List ℕ
unsigned n = signed_prefix (digits_of 256 n)

-- each bit the other way
abbrev pub inverted : List ℕ → List ℕ
inverted [] = []
inverted (d ∷ ds) = (255 - d) ∷ inverted ds

-- the shortest two's complement of a number
abbrev pub shortest : ℤ → List ℕ
shortest (pos n) = unsigned n
shortest (negsuc n) = inverted (unsigned n)

-- the number that octets represent in two's complement; none represent zero
abbrev pub whole_number : List ℕ → ℤ
whole_number [] = pos 0
whole_number (b ∷ bs) = if nat_lt b 128 then pos (number_from_digits 256 (b ∷ bs)) else negsuc (number_from_digits 256 (inverted (b ∷ bs)))

-- There is an octet, and the first nine bits are not all zeros and not all ones (X.690, 8.3.2).
pub record IsShortest (c : List ℕ) : Type 0 where
  pub some : 0 < length c
  pub positive : 1 < length c → slice_index c 0 ≡ 0 → 128 ≤ slice_index c 1
  pub negative : 1 < length c → slice_index c 0 ≡ 255 → slice_index c 1 < 128

-- the octets of a number: so many of the few that stand in the value, or those that stand behind it
abbrev pub octets_held : ℕ → List ℕ → List ℕ → List ℕ
octets_held count few more = take count few ++ more

-- a number's octets are its shortest, and stand in one place
pub record IsHeld (count : ℕ) (few more : List ℕ) : Type 0 where
  pub room : count ≤ 7
  pub here : 0 < count → more ≡ []
  pub short : IsShortest (octets_held count few more)
