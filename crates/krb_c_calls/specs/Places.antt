-- Where a field stands in the octets of an input.
use Rattle.std.specs.Prelude.{◌≡◌, ℕ, ◌+◌, ◌≤◌, List, ◌++◌, length, take, drop}

-- The field is those `size` octets of the input that have `offset` octets before them.
pub record StandsAt (field input : List ℕ) (offset size : ℕ) : Type 0 where
  pub count : size ≡ length field
  pub inside : offset + size ≤ length input
  pub octets : field ≡ take size (drop offset input)

-- The field stands there, and just these octets stand behind it to the end of the input.
pub record StandsBefore (field behind input : List ℕ) (offset size : ℕ) : Type 0 where
  pub before : List ℕ
  pub parts : input ≡ before ++ (field ++ behind)
  pub start : offset ≡ length before
  pub count : size ≡ length field
  pub octets : field ≡ take size (drop offset input)
