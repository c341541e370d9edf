-- The rotation of a Wrap token's data (RFC 4121, 4.2.5): the last octets come first, as many as the count, modulo the octets that there are.
use Rattle.std.specs.Prelude.{ℕ, ◌-◌, ◌%◌, List, ◌++◌, length, take, drop}

-- the last count octets, and then those before them
abbrev pub last_first : ℕ → List ℕ → List ℕ
last_first count octets = drop (length octets - count) octets ++ take (length octets - count) octets

abbrev pub rotated_right : ℕ → List ℕ → List ℕ
rotated_right count octets = last_first (count % length octets) octets
