-- An element: a tag, the octets of its content's length, and its content.
use Rattle.std.specs.Prelude.{ℕ, ◌+◌, List, [], ◌∷◌, ◌++◌, length, nat_lt, if◌then◌else◌}
use Rattle.std.specs.Int.Digits.{digits_of}

-- The length octets of n (X.690, 8.1.3 and 10.1): n itself below 128; else 128 more than the number of the octets that
-- follow, and those octets, which are n in base 256 with no leading zero.
unfoldable pub len : ℕ → List ℕ
len n = if nat_lt n 128 then n ∷ [] else (128 + length (digits_of 256 n)) ∷ digits_of 256 n

-- what is before a content of n octets
abbrev pub header : ℕ → ℕ → List ℕ
header t n = t ∷ len n

-- The element of tag t and content c (X.690, 8.1.1).
unfoldable pub tlv : ℕ → List ℕ → List ℕ
tlv t c = t ∷ len (length c) ++ c
