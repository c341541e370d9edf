-- Cipher block chaining and ciphertext stealing over any block function (RFC 3962, 5), blocks being lists of size octets.
use Rattle.std.specs.Prelude.{◌≡◌, ℕ, zero, suc, ◌+◌, ◌-◌, ◌/◌, ◌%◌, ◌<◌, ◌≤◌, List, [], ◌∷◌, ◌++◌, length, take, drop, replicate, slice_index, slice_index_or}
use Rattle.std.specs.List.{concat}
use Rattle.krb_crypto_hash.specs.Xor.{xor_lists, padded_to}

-- each is a number from 0 to 255
abbrev pub IsOctets : List ℕ → Type 0
IsOctets xs = (i : ℕ) → slice_index xs i < 256

abbrev pub IsBlock : ℕ → List ℕ → Type 0
IsBlock size b = (length b ≡ size) × IsOctets b

-- ---- padding (RFC 3961, 5.3, "pad"; RFC 3962, 5)

-- the payload with the fewest zeros to a multiple of size octets
pub record IsPadding (size : ℕ) (payload padded : List ℕ) : Type 0 where
  pub zeros : ℕ
  pub fewer : zeros < size
  pub concatenated : padded ≡ payload ++ replicate zeros 0
  pub whole : length padded % size ≡ 0

-- ---- block functions

-- E and D undo each other on blocks
pub record AreInverse (size : ℕ) (E D : List ℕ → List ℕ) : Type 0 where
  pub encrypted_octets : (b : List ℕ) → IsBlock size b → IsBlock size (E b)
  pub decrypted : (b : List ℕ) → IsBlock size b → IsBlock size (D b)
  pub left : (b : List ℕ) → IsBlock size b → D (E b) ≡ b
  pub right : (b : List ℕ) → IsBlock size b → E (D b) ≡ b

-- ---- chaining

-- the block before block i, v being the one before the first
abbrev pub before : List ℕ → List (List ℕ) → ℕ → List ℕ
before v cs zero = v
before v cs (suc i) = slice_index_or cs i []

-- two lists of blocks of equal length, each block being E of the plain one, combined with the block before it
abbrev pub CbcFrom : (List ℕ → List ℕ) → List ℕ → List (List ℕ) → List (List ℕ) → Type 0
CbcFrom E v ps cs = (length cs ≡ length ps)
    × ((i : ℕ) → i < length ps → slice_index_or cs i [] ≡ E (xor_lists (slice_index_or ps i []) (before v cs i)))

abbrev pub zero_block : ℕ → List ℕ
zero_block size = replicate size 0

-- the block before the first is zero
abbrev pub Cbc : ℕ → (List ℕ → List ℕ) → List (List ℕ) → List (List ℕ) → Type 0
Cbc size E ps cs = CbcFrom E (zero_block size) ps cs

-- the first n blocks of p, which zeros follow
unfoldable pub first_blocks : ℕ → ℕ → List ℕ → List (List ℕ)
first_blocks size zero p = []
first_blocks size (suc n) p = take size (p ++ zero_block size) ∷ first_blocks size n (drop size p)

-- the blocks of p, the last padded with zeros
abbrev pub padded_blocks : ℕ → List ℕ → List (List ℕ)
padded_blocks size p = first_blocks size ((length p + (size - 1)) / size) p

-- p is of whole blocks, and c is the blocks that it is chained to, concatenated
pub record IsCbc (size : ℕ) (E : List ℕ → List ℕ) (p c : List ℕ) : Type 0 where
  pub whole : length p % size ≡ 0
  pub blocks : List (List ℕ)
  pub chained : Cbc size E (padded_blocks size p) blocks
  pub concatenated : c ≡ concat blocks

-- ---- stealing, over blocks of 16 octets

-- the last two blocks exchanged, where there are two
unfoldable pub exchanged : List (List ℕ) → List (List ℕ)
exchanged [] = []
exchanged (x ∷ []) = x ∷ []
exchanged (x ∷ y ∷ []) = y ∷ x ∷ []
exchanged (x ∷ y ∷ z ∷ rest) = x ∷ exchanged (y ∷ z ∷ rest)

-- the octets t, padded with zeros to a block
abbrev pub padded : List ℕ → List ℕ
padded t = padded_to 16 t

abbrev pub CtsFrom : (List ℕ → List ℕ) → List ℕ → List ℕ → List ℕ → Type 0
CtsFrom E v p c = (16 ≤ length p) × (cs : List (List ℕ)) × CbcFrom E v (padded_blocks 16 p) cs × (c ≡ take (length p) (concat (exchanged cs)))

-- the last two runs of 16 octets, exchanged (RFC 3962, 5)
abbrev pub with_last_two_swapped : List ℕ → List ℕ
with_last_two_swapped octets = take (length octets - 32) octets ++ (drop (length octets - 16) octets ++ take 16 (drop (length octets - 32) octets))

-- ciphertext stealing (RFC 3962, 5): the zero-padded octets are chained, the last two blocks change places, and the result
-- is cut to the length of the octets, which are at least a block
abbrev pub Cts : (List ℕ → List ℕ) → List ℕ → List ℕ → Type 0
Cts E p c = CtsFrom E (zero_block 16) p c

-- there is exactly one p of octets that is encrypted to c
abbrev pub HasOnePlain : (List ℕ → List ℕ) → List ℕ → Type 0
HasOnePlain E c = (p : List ℕ) × IsOctets p × (length p ≡ length c) × Cts E p c × ((q : List ℕ) → IsOctets q → Cts E q c → q ≡ p)
