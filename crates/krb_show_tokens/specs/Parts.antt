-- Parts of the octets of a token, and how many of its octets stand before each. No standard has places: an offset is how many octets stand before, a
-- size how many there are.
use Rattle.std.specs.Prelude.{◌≡◌, ℕ, ◌+◌, ◌-◌, ◌^◌, min, nat_lt, false, List, ◌++◌, length, take, drop}
use Rattle.krb_der_core.specs.Tlv.{len, tlv}

-- so many octets further on; past the largest number of 64 bits, that
abbrev pub further : ℕ → ℕ → ℕ
further start size = min (start + size) (2 ^ 64 - 1)

-- how many octets an element has before its content: its tag and its length (X.690, 8.1.2 and 8.1.3)
abbrev pub header_size : List ℕ → ℕ
header_size content = 1 + length (len (length content))

-- octets before which so many others stand, in two: so many at the front, and those behind
pub record IsSplit (start size front_at next : ℕ) (front rest octets : List ℕ) : Type 0 where
  pub long : nat_lt (length octets) size ≡ false
  pub is_front_at : front_at ≡ start
  pub is_next : next ≡ further start size
  pub is_front : front ≡ take size octets
  pub is_rest : rest ≡ drop size octets

-- an element of DER is at the front of the octets, whatever its tag (X.690, 8.1.1): its content, and the octets behind it
pub record IsElement (content rest octets : List ℕ) : Type 0 where
  pub tag : ℕ
  pub parts : octets ≡ tlv tag content ++ rest

-- the same of octets before which so many others stand: so many stand before the content, and so many before what is behind the element
pub record IsElementAt (start at next : ℕ) (content rest octets : List ℕ) : Type 0 where
  pub is_element : IsElement content rest octets
  pub is_at : at ≡ further start (header_size content)
  pub is_next : next ≡ further at (length content)

-- no element is at the front
abbrev pub NoElement : List ℕ → Type 0
NoElement octets = (content rest : List ℕ) → IsElement content rest octets → ⊥
