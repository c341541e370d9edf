-- Flags of a bit string (RFC 4120, 5.2.8).
use Rattle.std.specs.Prelude.{ℕ, ◌-◌, ◌/◌, ◌%◌, ◌^◌, Bool, ◌&&◌, ◌==◌, nat_lt, List, length, slice_index}

-- the bit of this number, from 0 for the highest bit of the first octet (X.690, 8.6.2.1), is there and is 1
abbrev pub is_set : List ℕ → ℕ → Bool
is_set octets number = nat_lt (number / 8) (length octets) && (slice_index octets (number / 8) / 2 ^ (7 - number % 8) % 2 == 1)
