-- AES on vectors of 16 lanes, an octet each: the forms in which a state and a round key are kept (after Hamburg, "Accelerating AES with
-- Vector Permute Instructions", 2009), and what the vector code does to one lane.
--
-- An octet of the standard is an element k + i t of GF(2^8) over GF(2^4), t being a root of T^2 + 2 T + 2, and GF(2^4) that of
-- x^4 + x + 1. Its tower form is 16 i + k. Going there is linear, and the inverse of an octet in tower form is linear in two
-- look-ups in tables of 16.
use Rattle.std.specs.Prelude.{◌≡◌, ℕ, zero, suc, ◌+◌, ◌-◌, ◌*◌, ◌/◌, ◌%◌, ◌<◌, ◌≤◌, Bool, true, ◌||◌, nat_le, nat_lt, List, [], ◌∷◌, map, length, take, bit_and, bit_xor, slice_index, slice_index_or, if◌then◌else◌}
use Rattle.std.specs.Int.{bit_at}
use Rattle.std.specs.Simd.Lanes.{Each1}
use Rattle.krb_crypto_block.specs.Modes.{IsOctets}
use Rattle.krb_crypto_block.specs.Aes.{state_of, key_expansion, IsKeySize}
use Rattle.krb_crypto_block.specs.InverseCipher.{inverse_mix_columns}
use Rattle.krb_crypto_block.specs.declared.aes.round_keys.RoundKey.{RoundKey}
use Rattle.krb_crypto_block.specs.declared.aes.tables.TheConstants.{INVERSE, SCALED}

-- ---- tower form

-- of the images of x^0, x^1, .., the sum of those whose x^i, i below n, is in x
abbrev pub image_sum : List ℕ → ℕ → ℕ → ℕ
image_sum images x zero = 0
image_sum images x (suc i) = bit_xor (bit_at x i * slice_index images i) (image_sum images x i)

-- what the octets 1, x, .., x^7 are in tower form
abbrev pub tower_images : List ℕ
tower_images = 0x01 ∷ 0x1c ∷ 0x2d ∷ 0x27 ∷ 0x86 ∷ 0xfd ∷ 0x8e ∷ 0x77 ∷ []

-- the octet in tower form
unfoldable pub tower : ℕ → ℕ
tower x = image_sum tower_images x 8

-- the octets b 1, b x, .., b x^7 in tower form, b taking an octet to what the linear part of the affine map takes to it
abbrev pub inverse_images : List ℕ
inverse_images = 0xb5 ∷ 0xdc ∷ 0xdb ∷ 0x14 ∷ 0xa7 ∷ 0xa8 ∷ 0xed ∷ 0xd1 ∷ []

-- what the linear part of the affine map (5.1.1) takes to the octet, in tower form
unfoldable pub inverse_linear : ℕ → ℕ
inverse_linear x = image_sum inverse_images x 8

-- round key n of the expanded key w
abbrev pub round_octets : List ℕ → ℕ → List ℕ
round_octets w n = state_of (λ r c. slice_index w (16 * n + (r + 4 * c)))

-- with the constant of SubBytes
abbrev pub with_constant : ℕ → ℕ
with_constant k = bit_xor k 0x63

-- an octet of a state of the inverse cipher in inverse form: what the affine map takes to it, in tower form
abbrev pub inverse_form : ℕ → ℕ
inverse_form b = inverse_linear (with_constant b)

-- the lanes of round key n
abbrev pub lanes_at : List RoundKey → ℕ → List ℕ
lanes_at keys n = slice_index_or (map (λ k. k.lanes) keys) n []

-- the lanes of the first round key, of each one between and of the last, number nr
pub record AreRoundKeys (first : List ℕ) (between : ℕ → List ℕ) (last : List ℕ) (keys : List RoundKey) (nr : ℕ) : Type 0 where
  pub first_is : lanes_at keys 0 ≡ first
  pub between_are : (n : ℕ) → 1 ≤ n → n < nr → lanes_at keys n ≡ between n
  pub last_is : lanes_at keys nr ≡ last

-- those before round key n
pub record AreRoundKeysBelow (first : List ℕ) (between : ℕ → List ℕ) (keys : List RoundKey) (n : ℕ) : Type 0 where
  pub first_is : lanes_at keys 0 ≡ first
  pub between_are : (m : ℕ) → 1 ≤ m → m < n → lanes_at keys m ≡ between m

-- a round key between the first and the last as a round takes it: in tower form, with the constant of SubBytes, which MixColumns
-- leaves as it is
abbrev pub round_vector : List ℕ → ℕ → List ℕ
round_vector w n = map (λ k. tower (with_constant k)) (round_octets w n)

-- the round keys of the expanded key w for nr rounds: the first in tower form, the last as octets of the standard with the constant
abbrev pub HasVectors : List ℕ → List RoundKey → ℕ → Type 0
HasVectors w keys nr = AreRoundKeys (map tower (round_octets w 0)) (round_vector w) (map with_constant (round_octets w nr)) keys nr

abbrev pub HasVectorsBelow : List ℕ → List RoundKey → ℕ → Type 0
HasVectorsBelow w keys n = AreRoundKeysBelow (map tower (round_octets w 0)) (round_vector w) keys n

-- a round key between as a round of the equivalent inverse cipher takes it (5.3.5): unmixed, in inverse form
abbrev pub inverse_vector : List ℕ → ℕ → List ℕ
inverse_vector w n = map inverse_form (inverse_mix_columns (round_octets w n))

-- the round keys of the equivalent inverse cipher: the first as octets of the standard, the last in inverse form
abbrev pub HasInverseVectors : List ℕ → List RoundKey → ℕ → Type 0
HasInverseVectors w keys nr = AreRoundKeys (round_octets w 0) (inverse_vector w) (map inverse_form (round_octets w nr)) keys nr

abbrev pub HasInverseVectorsBelow : List ℕ → List RoundKey → ℕ → Type 0
HasInverseVectorsBelow w keys n = AreRoundKeysBelow (round_octets w 0) (inverse_vector w) keys n

-- ---- what is kept of a key

-- the octets of a key that is a prefix of a list, for this number of rounds
pub record IsKeyPrefix (octets : List ℕ) (nr : ℕ) : Type 0 where
  pub size : IsKeySize (nr - 6)
  pub are_octets : IsOctets octets

-- the key of nr rounds that is a prefix of a list
abbrev pub key_prefix : List ℕ → ℕ → List ℕ
key_prefix octets nr = take (4 * (nr - 6)) octets

-- the octets of a key, and its round keys as the rounds take them
pub record EncryptsWith (octets : List ℕ) (keys : List RoundKey) (nr : ℕ) : Type 0 where
  pub key : IsKeyPrefix octets nr
  pub long : length keys ≡ 15
  pub vectors : HasVectors (key_expansion (key_prefix octets nr)) keys nr

-- the same of the equivalent inverse cipher
pub record DecryptsWith (octets : List ℕ) (keys : List RoundKey) (nr : ℕ) : Type 0 where
  pub key : IsKeyPrefix octets nr
  pub long : length keys ≡ 15
  pub vectors : HasInverseVectors (key_expansion (key_prefix octets nr)) keys nr

-- ---- permutes

-- the positions that a permute of 16 octets takes: a lane, or 128 and more, which gives 0
abbrev pub is_index : ℕ → Bool
is_index j = nat_le 128 j || nat_lt j 16

abbrev pub AreIndices : List ℕ → Type 0
AreIndices js = Each1 (λ j. is_index j ≡ true) js

abbrev pub permute_at : List ℕ → ℕ → ℕ
permute_at t j = if nat_le 128 j then 0 else slice_index t j

-- the lane that InvShiftRows (5.3.1) takes to row r of column c
abbrev pub inverse_position : ℕ → ℕ → ℕ
inverse_position r c = r + 4 * ((c + 4 - r) % 4)

-- for each lane, the lane that it takes to the row k further down in the same column
abbrev pub inverse_positions : ℕ → List ℕ
inverse_positions k = state_of (λ r c. inverse_position ((r + k) % 4) c)

abbrev pub low_of : ℕ → ℕ
low_of x = bit_and x 15

abbrev pub high_of : ℕ → ℕ
high_of x = x / 16

abbrev pub sum_of : ℕ → ℕ
sum_of x = bit_xor (high_of x) (low_of x)

abbrev pub scaled_of : ℕ → ℕ
scaled_of x = permute_at SCALED (low_of x)

abbrev pub first_reciprocal : ℕ → ℕ
first_reciprocal x = bit_xor (permute_at INVERSE (high_of x)) (scaled_of x)

abbrev pub second_reciprocal : ℕ → ℕ
second_reciprocal x = bit_xor (permute_at INVERSE (sum_of x)) (scaled_of x)

abbrev pub first_index : ℕ → ℕ
first_index x = bit_xor (permute_at INVERSE (first_reciprocal x)) (sum_of x)

abbrev pub second_index : ℕ → ℕ
second_index x = bit_xor (permute_at INVERSE (second_reciprocal x)) (high_of x)

-- what two tables hold of the nibbles of x
abbrev pub linear_of : List ℕ → List ℕ → ℕ → ℕ
linear_of t u x = bit_xor (permute_at t (low_of x)) (permute_at u (high_of x))

-- what two tables hold of the inversion_indices of x
abbrev pub looked_up_at : List ℕ → List ℕ → ℕ → ℕ
looked_up_at t u x = bit_xor (permute_at t (first_index x)) (permute_at u (second_index x))
