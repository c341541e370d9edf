-- Bit strings.
use Rattle.std.specs.Prelude.{◌≡◌, ℕ, ◌^◌, ◌≤◌, ◌%◌, ◌-◌, List, ◌∷◌, length, slice_index}
use Rattle.krb_der_core.specs.Encoding.{IsOctets}

-- octets, and how many low bits of the last are spare
pub record Bits : Type 0 where
  pub octets : List ℕ
  pub spare : ℕ

-- The octets are octets; at most seven bits are spare, none without octets (X.690, 8.6.2), and those are zeros (X.690, 11.2.1).
pub record IsBits (b : Bits) : Type 0 where
  pub octets : IsOctets b.octets
  pub few : b.spare ≤ 7
  pub none : length b.octets ≡ 0 → b.spare ≡ 0
  pub zeros : slice_index b.octets (length b.octets - 1) % 2 ^ b.spare ≡ 0

-- the number of spare bits, and the octets (X.690, 8.6.2)
abbrev pub bits_content : Bits → List ℕ
bits_content b = b.spare ∷ b.octets
