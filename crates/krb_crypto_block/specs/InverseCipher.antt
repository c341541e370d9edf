-- The inverse cipher (FIPS 197, 5.3). The contract of `decrypt_block` names its result, `aes_undo`, beside what needs none of this:
-- that the block is the one that the cipher takes to the given block.
use Rattle.std.specs.Prelude.{ℕ, zero, suc, ◌+◌, ◌-◌, ◌%◌, List, [], ◌∷◌}
use Rattle.std.specs.Int.{bit_at}
use Rattle.krb_crypto_block.specs.Polynomial.{inverse}
use Rattle.krb_crypto_block.specs.SBox.{from_bits}
use Rattle.krb_crypto_block.specs.Aes.{octet_at, state_of, column_coefficient, column_of, add_round_key, key_expansion, key_words, round_count}

-- bit i of the inverse of the affine map
abbrev pub inverse_affine_bit : ℕ → ℕ → ℕ
inverse_affine_bit b i =
    (bit_at b ((i + 2) % 8) + bit_at b ((i + 5) % 8) + bit_at b ((i + 7) % 8) + bit_at 0x05 i) % 2

-- the inverse of the S-box (5.3.2)
unfoldable pub inverse_s_box : ℕ → ℕ
inverse_s_box x = inverse (from_bits (inverse_affine_bit x) 8)

-- InvSubBytes (5.3.2)
unfoldable pub inverse_sub_bytes : List ℕ → List ℕ
inverse_sub_bytes s = state_of (λ r c. inverse_s_box (octet_at s r c))

-- InvShiftRows (5.3.1): row r is turned right by r
unfoldable pub inverse_shift_rows : List ℕ → List ℕ
inverse_shift_rows s = state_of (λ r c. octet_at s r ((c + 4 - r) % 4))

-- 0b y^3 + 0d y^2 + 09 y + 0e, lowest coefficient first
abbrev pub unmix_polynomial : List ℕ
unmix_polynomial = 14 ∷ 9 ∷ 13 ∷ 11 ∷ []

-- InvMixColumns (5.3.3): each column, as a polynomial over octets, times the polynomial above
unfoldable pub inverse_mix_columns : List ℕ → List ℕ
inverse_mix_columns s = state_of (λ r c. column_coefficient unmix_polynomial (column_of s c) r)

-- the state before round n
abbrev pub inverse_round : List ℕ → ℕ → List ℕ → List ℕ
inverse_round w n s = inverse_sub_bytes (inverse_shift_rows (inverse_mix_columns (add_round_key w n s)))

-- the state before the last round
abbrev pub inverse_last_round : List ℕ → ℕ → List ℕ → List ℕ
inverse_last_round w n s = inverse_sub_bytes (inverse_shift_rows (add_round_key w n s))

-- the state before the first n rounds
unfoldable pub inverse_rounds : List ℕ → List ℕ → ℕ → List ℕ
inverse_rounds w s zero = s
inverse_rounds w s (suc n) = inverse_rounds w (inverse_round w (suc n) s) n

-- the state before the first key is added, for the block c after nr rounds
abbrev pub decrypt : List ℕ → ℕ → List ℕ → List ℕ
decrypt w nr c = add_round_key w 0 (inverse_rounds w (inverse_last_round w nr c) (nr - 1))

-- the block that the key takes to c
unfoldable pub aes_undo : List ℕ → List ℕ → List ℕ
aes_undo key c = decrypt (key_expansion key) (round_count (key_words key)) c
