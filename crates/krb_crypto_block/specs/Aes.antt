-- The AES block cipher (FIPS 197) on lists of octets. A state is a 4 by 4 table of octets, kept as the
-- 16 octets of its columns, first column first.
use Rattle.std.specs.Prelude.{◌≡◌, ℕ, zero, suc, ◌+◌, ◌-◌, ◌*◌, ◌/◌, ◌%◌, ◌==◌, ◌&&◌, ◌⊎◌, List, [], ◌∷◌, ◌++◌, length, bit_xor, slice_index, if◌then◌else◌}
use Rattle.krb_crypto_block.specs.Polynomial.{times}
use Rattle.krb_crypto_block.specs.SBox.{s_box}

-- the octet in row r and column c
abbrev pub octet_at : List ℕ → ℕ → ℕ → ℕ
octet_at s r c = slice_index s (r + 4 * c)

-- the state whose octet in row r and column c is f r c
abbrev pub state_of : (ℕ → ℕ → ℕ) → List ℕ
state_of f =
    f 0 0 ∷ f 1 0 ∷ f 2 0 ∷ f 3 0 ∷ f 0 1 ∷ f 1 1 ∷ f 2 1 ∷ f 3 1
    ∷ f 0 2 ∷ f 1 2 ∷ f 2 2 ∷ f 3 2 ∷ f 0 3 ∷ f 1 3 ∷ f 2 3 ∷ f 3 3 ∷ []

-- SubBytes (5.1.1)
unfoldable pub sub_bytes : List ℕ → List ℕ
sub_bytes s = state_of (λ r c. s_box (octet_at s r c))

-- ShiftRows (5.1.2): row r is turned left by r
unfoldable pub shift_rows : List ℕ → List ℕ
shift_rows s = state_of (λ r c. octet_at s r ((c + r) % 4))

-- the coefficient of y^r in the product of the polynomials p and q, of four coefficients each, modulo
-- y^4 + 1, lowest coefficient first (4.3)
abbrev pub column_coefficient : List ℕ → List ℕ → ℕ → ℕ
column_coefficient p q r =
    bit_xor (bit_xor (bit_xor (times (slice_index p (r % 4)) (slice_index q 0))
    (times (slice_index p ((r + 3) % 4)) (slice_index q 1)))
    (times (slice_index p ((r + 2) % 4)) (slice_index q 2)))
    (times (slice_index p ((r + 1) % 4)) (slice_index q 3))

-- the product of two such polynomials
abbrev pub product_of_columns : List ℕ → List ℕ → List ℕ
product_of_columns p q =
    column_coefficient p q 0 ∷ column_coefficient p q 1 ∷ column_coefficient p q 2 ∷ column_coefficient p q 3 ∷ []

-- 03 y^3 + 01 y^2 + 01 y + 02, lowest coefficient first
abbrev pub mix_polynomial : List ℕ
mix_polynomial = 2 ∷ 1 ∷ 1 ∷ 3 ∷ []

-- column c
abbrev pub column_of : List ℕ → ℕ → List ℕ
column_of s c = octet_at s 0 c ∷ octet_at s 1 c ∷ octet_at s 2 c ∷ octet_at s 3 c ∷ []

-- MixColumns (5.1.3): each column, as a polynomial over octets, times the polynomial above
unfoldable pub mix_columns : List ℕ → List ℕ
mix_columns s = state_of (λ r c. column_coefficient mix_polynomial (column_of s c) r)

-- AddRoundKey (5.1.4), with round key n of the expanded key w
unfoldable pub add_round_key : List ℕ → ℕ → List ℕ → List ℕ
add_round_key w n s = state_of (λ r c. bit_xor (octet_at s r c) (slice_index w (16 * n + (r + 4 * c))))

-- ---- the key expansion (5.2)

-- word i of an expanded key
abbrev pub word_at : List ℕ → ℕ → List ℕ
word_at w i = slice_index w (4 * i) ∷ slice_index w (4 * i + 1) ∷ slice_index w (4 * i + 2) ∷ slice_index w (4 * i + 3) ∷ []

abbrev pub rot_word : List ℕ → List ℕ
rot_word t = slice_index t 1 ∷ slice_index t 2 ∷ slice_index t 3 ∷ slice_index t 0 ∷ []

abbrev pub sub_word : List ℕ → List ℕ
sub_word t = s_box (slice_index t 0) ∷ s_box (slice_index t 1) ∷ s_box (slice_index t 2) ∷ s_box (slice_index t 3) ∷ []

abbrev pub add_words : List ℕ → List ℕ → List ℕ
add_words t u = bit_xor (slice_index t 0) (slice_index u 0) ∷ bit_xor (slice_index t 1) (slice_index u 1)
    ∷ bit_xor (slice_index t 2) (slice_index u 2) ∷ bit_xor (slice_index t 3) (slice_index u 3) ∷ []

-- x^n as an octet
unfoldable pub power_of_x : ℕ → ℕ
power_of_x zero = 1
power_of_x (suc n) = times 2 (power_of_x n)

-- Rcon for the word i, with a key of nk words
abbrev pub round_constant : ℕ → ℕ → List ℕ
round_constant nk i = power_of_x (i / nk - 1) ∷ 0 ∷ 0 ∷ 0 ∷ []

-- what word i adds to the word nk before it, from the word before it
unfoldable pub key_term : ℕ → ℕ → List ℕ → List ℕ
key_term nk i t =
    if i % nk == 0 then add_words (sub_word (rot_word t)) (round_constant nk i)
    else if (nk == 8) && (i % 8 == 4) then sub_word t
    else t

-- word i from the words before it
abbrev pub next_word : ℕ → List ℕ → ℕ → List ℕ
next_word nk w i = add_words (word_at w (i - nk)) (key_term nk i (word_at w (i - 1)))

-- a key of nk words and the n words after it
unfoldable pub expanded : ℕ → List ℕ → ℕ → List ℕ
expanded nk key zero = key
expanded nk key (suc n) = expanded nk key n ++ next_word nk (expanded nk key n) (n + nk)

-- the words of a key, Nk
abbrev pub key_words : List ℕ → ℕ
key_words key = length key / 4

-- the number of rounds for a key of nk words
abbrev pub round_count : ℕ → ℕ
round_count nk = nk + 6

-- all round keys of a key: 4 words for each of the rounds, and 4 before them
unfoldable pub key_expansion : List ℕ → List ℕ
key_expansion key = expanded (key_words key) key (4 * (round_count (key_words key) + 1) - key_words key)

-- ---- the cipher (5.1)

-- the state after round n
abbrev pub round : List ℕ → ℕ → List ℕ → List ℕ
round w n s = add_round_key w n (mix_columns (shift_rows (sub_bytes s)))

-- the state p after the first key is added, and n rounds
unfoldable pub rounds : List ℕ → List ℕ → ℕ → List ℕ
rounds w p zero = add_round_key w 0 p
rounds w p (suc n) = round w (suc n) (rounds w p n)

-- the last round has no MixColumns
abbrev pub last_round : List ℕ → ℕ → List ℕ → List ℕ
last_round w n s = add_round_key w n (shift_rows (sub_bytes s))

-- with nr rounds and the expanded key w
abbrev pub cipher : List ℕ → ℕ → List ℕ → List ℕ
cipher w nr p = last_round w nr (rounds w p (nr - 1))

-- the block p under a key of 16 or 32 octets
unfoldable pub aes_block : List ℕ → List ℕ → List ℕ
aes_block key p = cipher (key_expansion key) (round_count (key_words key)) p

-- a key has 4 or 8 words
abbrev pub IsKeySize : ℕ → Type 0
IsKeySize nk = (nk ≡ 4) ⊎ (nk ≡ 8)
