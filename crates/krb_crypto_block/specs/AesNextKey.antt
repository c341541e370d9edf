-- A round key from those before it (FIPS 197, 5.2), as states: the first column has a word added, each later one the column
-- before it.
use Rattle.std.specs.Prelude.{◌≡◌, ℕ, zero, suc, ◌-◌, List, [], ◌∷◌, map, bit_xor, slice_index}
use Rattle.krb_crypto_block.specs.Aes.{octet_at, state_of, power_of_x}
use Rattle.krb_crypto_block.specs.AesLanes.{tower, round_octets}

-- Rcon[n + 1]
abbrev pub constant_word : ℕ → List ℕ
constant_word n = power_of_x n ∷ 0 ∷ 0 ∷ 0 ∷ []

-- the word t in each column
abbrev pub in_each_column : List ℕ → List ℕ
in_each_column t = state_of (λ r c. slice_index t r)

-- the sum of what row r of s has in the columns 0 to c, and in the word t
abbrev pub sum_up_to : List ℕ → List ℕ → ℕ → ℕ → ℕ
sum_up_to s t r zero = bit_xor (octet_at s r 0) (slice_index t r)
sum_up_to s t r (suc c) = bit_xor (octet_at s r (suc c)) (sum_up_to s t r c)

-- the columns of s, t added to the first, and to each later one the new column before it
abbrev pub next_octets : List ℕ → List ℕ → List ℕ
next_octets s t = state_of (sum_up_to s t)

-- the round keys before round key n of the expanded key w of nk words: the last, also in tower form, and for a key of 8 words the
-- one before it
pub record HasLast (nk : ℕ) (w before last in_tower : List ℕ) (n : ℕ) : Type 0 where
  pub before_is : nk ≡ 8 → before ≡ round_octets w (n - 2)
  pub last_is : last ≡ round_octets w (n - 1)
  pub tower_is : in_tower ≡ map tower (round_octets w (n - 1))
