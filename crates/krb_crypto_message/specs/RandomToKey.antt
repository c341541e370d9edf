-- random-to-key of triple DES (RFC 3961, 6.3.1), on lists of octets.
use Rattle.std.specs.Prelude.{◌≡◌, ℕ, ◌+◌, ◌-◌, ◌/◌, ◌%◌, ◌==◌, ◌&&◌, Bool, List, [], ◌∷◌, ◌++◌, map, take, drop, bit_xor, slice_index, slice_set, if◌then◌else◌}
use Rattle.std.specs.Int.{bit_at}
use Rattle.std.specs.List.{flat_map, list_any, sum}
use Rattle.std.specs.Str.{bytes_eq}
use Rattle.krb_crypto_block.specs.Des.{number_of_bits}

-- ---- parity

-- the octet of seven bits and a lowest one, p, which makes the number of its ones odd
unfoldable pub with_parity : List ℕ → ℕ
with_parity bits = number_of_bits (bits ++ (sum bits + 1) % 2 ∷ [])

-- the upper seven bits of an octet, the highest first
abbrev pub upper_bits : ℕ → List ℕ
upper_bits x = map (bit_at x) (7 ∷ 6 ∷ 5 ∷ 4 ∷ 3 ∷ 2 ∷ 1 ∷ [])

-- the number of ones among the eight bits of an octet is odd
abbrev pub HasOddParity : ℕ → Type 0
HasOddParity x = sum (bit_at x 0 ∷ upper_bits x) % 2 ≡ 1

-- ---- seven octets stretched to eight

-- bit n of some octets, where bit 1 is the highest of the first octet, and bit 9 that of the second
abbrev pub numbered_bit : List ℕ → ℕ → ℕ
numbered_bit octets n = bit_at (slice_index octets ((n - 1) / 8)) (7 - (n - 1) % 8)

-- which bits of seven octets the eight octets have above the parity, the highest first (the table of 6.3.1)
abbrev pub key_bits : List (List ℕ)
key_bits =
    (1 ∷ 2 ∷ 3 ∷ 4 ∷ 5 ∷ 6 ∷ 7 ∷ [])
    ∷ (9 ∷ 10 ∷ 11 ∷ 12 ∷ 13 ∷ 14 ∷ 15 ∷ [])
    ∷ (17 ∷ 18 ∷ 19 ∷ 20 ∷ 21 ∷ 22 ∷ 23 ∷ [])
    ∷ (25 ∷ 26 ∷ 27 ∷ 28 ∷ 29 ∷ 30 ∷ 31 ∷ [])
    ∷ (33 ∷ 34 ∷ 35 ∷ 36 ∷ 37 ∷ 38 ∷ 39 ∷ [])
    ∷ (41 ∷ 42 ∷ 43 ∷ 44 ∷ 45 ∷ 46 ∷ 47 ∷ [])
    ∷ (49 ∷ 50 ∷ 51 ∷ 52 ∷ 53 ∷ 54 ∷ 55 ∷ [])
    ∷ (56 ∷ 48 ∷ 40 ∷ 32 ∷ 24 ∷ 16 ∷ 8 ∷ [])
    ∷ []

unfoldable pub stretched : List ℕ → List ℕ
stretched octets = map (λ row. with_parity (map (numbered_bit octets) row)) key_bits

-- ---- the weak and the semi-weak keys of DES (FIPS 74; NIST SP 800-67)

-- an octet of the first half of such a key, and the one of its second half that goes with it
abbrev pub weak_pairs : List (ℕ × ℕ)
weak_pairs = (0x01, 0x01) ∷ (0x1f, 0x0e) ∷ (0xe0, 0xf1) ∷ (0xfe, 0xfe) ∷ []

-- these octets are such a pair
abbrev pub is_weak_pair : ℕ → ℕ → Bool
is_weak_pair a c = list_any (λ p. (p.0 == a) && (p.1 == c)) weak_pairs

-- the key of two such pairs
abbrev pub weak_key : ℕ × ℕ → ℕ × ℕ → List ℕ
weak_key p q = p.0 ∷ q.0 ∷ p.0 ∷ q.0 ∷ p.1 ∷ q.1 ∷ p.1 ∷ q.1 ∷ []

-- all 16
unfoldable pub weak_keys : List (List ℕ)
weak_keys = flat_map (λ p. map (weak_key p) weak_pairs) weak_pairs

-- the key is one of them
unfoldable pub is_weak : List ℕ → Bool
is_weak key = list_any (bytes_eq key) weak_keys

-- a weak key with f0 added by exclusive or to its last octet, and any other key as it is (6.2)
unfoldable pub repaired : List ℕ → List ℕ
repaired key = if is_weak key then slice_set key 7 (bit_xor (slice_index key 7) 0xf0) else key

-- ---- the key

-- the key of DES that seven octets give
unfoldable pub key_part : List ℕ → List ℕ
key_part octets = repaired (stretched octets)

-- the three keys of DES that the first 21 octets of a seed give, concatenated
unfoldable pub random_to_key : List ℕ → List ℕ
random_to_key seed = key_part (take 7 seed) ++ key_part (take 7 (drop 7 seed)) ++ key_part (take 7 (drop 14 seed))
