-- Columns and round keys as words of 32 bits, first octet highest (FIPS 197, 3.5 and 5.2), and the inverse cipher by its steps (5.3).
use Rattle.std.specs.Prelude.{◌≡◌, ℕ, zero, suc, ◌+◌, ◌*◌, ◌^◌, ◌<◌, List, [], ◌∷◌, slice_index}
use Rattle.krb_crypto_block.specs.Modes.{IsBlock}
use Rattle.krb_crypto_block.specs.Aes.{column_of, add_round_key}
use Rattle.krb_crypto_block.specs.InverseCipher.{inverse_sub_bytes, inverse_shift_rows, inverse_mix_columns}

-- four octets as a word
abbrev pub word : ℕ → ℕ → ℕ → ℕ → ℕ
word a b c d = ((a * 2 ^ 8 + b) * 2 ^ 8 + c) * 2 ^ 8 + d

-- a list of four octets as a word
abbrev pub word_of : List ℕ → ℕ
word_of t = word (slice_index t 0) (slice_index t 1) (slice_index t 2) (slice_index t 3)

-- the columns of a state
abbrev pub words_of : List ℕ → List ℕ
words_of s = word_of (column_of s 0) ∷ word_of (column_of s 1) ∷ word_of (column_of s 2) ∷ word_of (column_of s 3) ∷ []

-- the words are the state s
abbrev pub Holds : List ℕ → List ℕ → Type 0
Holds words s = IsBlock 16 s × (words ≡ words_of s)

-- column c of round key n of the expanded key w
abbrev pub key_column : List ℕ → ℕ → ℕ → List ℕ
key_column w n c =
    slice_index w (16 * n + (0 + 4 * c)) ∷ slice_index w (16 * n + (1 + 4 * c))
    ∷ slice_index w (16 * n + (2 + 4 * c)) ∷ slice_index w (16 * n + (3 + 4 * c)) ∷ []

-- the words have round key n of the expanded key w in its place
unfoldable pub HasRoundKey : List ℕ → List ℕ → ℕ → Type 0
HasRoundKey w words n = (c : ℕ) → c < 4 → slice_index words (4 * n + c) ≡ word_of (key_column w n c)

-- round n of the inverse cipher, in the order of its steps (5.3)
abbrev pub inverse_cipher_round : List ℕ → ℕ → List ℕ → List ℕ
inverse_cipher_round w n s = inverse_mix_columns (add_round_key w n (inverse_sub_bytes (inverse_shift_rows s)))

-- its rounds from round n to round 1
unfoldable pub inverse_cipher_rounds : List ℕ → List ℕ → ℕ → List ℕ
inverse_cipher_rounds w s zero = s
inverse_cipher_rounds w s (suc n) = inverse_cipher_rounds w (inverse_cipher_round w (suc n) s) n

-- its last round
abbrev pub inverse_cipher_last : List ℕ → List ℕ → List ℕ
inverse_cipher_last w s = add_round_key w 0 (inverse_sub_bytes (inverse_shift_rows s))
