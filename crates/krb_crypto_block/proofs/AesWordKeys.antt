-- The key expansion by words.
use Rattle.std.proofs.Common.{◌≡◌, ℕ, ◌+◌, ◌-◌, ◌*◌, ◌<◌, ◌≤◌, bit_xor, List, [], ◌∷◌, length, slice_index, set, sym, ap, ◌∙◌, arith, inl, inr}
use Rattle.std.specs.Int.{w32, to_be_bytes}
use Rattle.std.proofs.lemmas.Bool.{cases_lt}
use Rattle.std.proofs.lemmas.List.{get_or-set_same, get_or-set_other}
use Rattle.krb_crypto_block.specs.Modes.{IsOctets}
use Rattle.krb_crypto_block.specs.Aes.{word_at, add_words, next_word, key_term, expanded, key_expansion, key_words, round_count, IsKeySize}
use Rattle.krb_crypto_block.specs.AesWords.{word_of, key_column, HasRoundKey}
use Rattle.krb_crypto_block.proofs.AesExpansion.{expanded-own, expanded-word}
use Rattle.krb_crypto_block.proofs.AesUndoing.{IsOctets-word_at, IsOctets-key_term, IsOctets-expanded}
use Rattle.krb_crypto_block.proofs.AesWords.{word_xor, bytes_of_word, same4}

-- the octets of a word that is four octets
pub bytes_of_four : (t : List ℕ) (n : ℕ) → IsOctets t → n ≡ word_of t
    → to_be_bytes w32 n ≡ slice_index t 0 ∷ slice_index t 1 ∷ slice_index t 2 ∷ slice_index t 3 ∷ []
bytes_of_four t n octets e = bytes_of_word _ _ _ _ n (octets 0) (octets 1) (octets 2) (octets 3) e

pub word_of_sum : (t u : List ℕ) → IsOctets t → IsOctets u → bit_xor (word_of t) (word_of u) ≡ word_of (add_words t u)
word_of_sum t u ht hu = word_xor _ _ _ _ _ _ _ _ (ht 1) (ht 2) (ht 3) (hu 1) (hu 2) (hu 3)

-- the first words are those of the expanded key e
abbrev pub AreWords : List ℕ → List ℕ → ℕ → Type 0
AreWords e words m = (k : ℕ) → k < m → slice_index words k ≡ word_of (word_at e k)

-- a word is a column of a round key
pub column_word : (e : List ℕ) (n c : ℕ) → word_at e (4 * n + c) ≡ key_column e n c
column_word e n c =
    let i0 : 4 * (4 * n + c) ≡ 16 * n + (0 + 4 * c) = omega arith in
    let i1 : 4 * (4 * n + c) + 1 ≡ 16 * n + (1 + 4 * c) = omega arith in
    let i2 : 4 * (4 * n + c) + 2 ≡ 16 * n + (2 + 4 * c) = omega arith in
    let i3 : 4 * (4 * n + c) + 3 ≡ 16 * n + (3 + 4 * c) = omega arith in
    same4 _ _ _ _ _ _ _ _ (ap (slice_index e) i0) (ap (slice_index e) i1) (ap (slice_index e) i2) (ap (slice_index e) i3)

-- where all words are, each round key is in its place
pub round_key_in_place : (e words : List ℕ) (m n : ℕ) → AreWords e words m → 4 * n + 4 ≤ m → HasRoundKey e words n
unfolding HasRoundKey
round_key_in_place e words m n are fits c h = are (4 * n + c) (omega arith) ∙ ap word_of (column_word e n c)

module _ (nk : ℕ) (key : List ℕ) (size : IsKeySize nk) (long : length key ≡ 4 * nk) (octets : IsOctets key) where
  key_words-is : key_words key ≡ nk
  key_words-is = elim size [ inl four ↦ omega arith | inr eight ↦ omega arith ]

  abbrev expansion : ℕ
  expansion = 4 * (round_count nk + 1) - nk

  key_expansion-is : key_expansion key ≡ expanded nk key expansion
  unfolding key_expansion
  key_expansion-is = ap (λ (m : ℕ). expanded m key (4 * (round_count m + 1) - m)) key_words-is

  pub key_expansion-octets : IsOctets (key_expansion key)
  key_expansion-octets = rw key_expansion-is (IsOctets-expanded nk key expansion octets)

  -- the key's own words
  pub own_word : (k : ℕ) → k < nk → word_at key k ≡ word_at (key_expansion key) k
  own_word k h = sym (expanded-own nk key expansion k long h) ∙ ap (λ (e : List ℕ). word_at e k) (sym key_expansion-is)

  pub own_words : (words : List ℕ) → ((k : ℕ) → k < nk → slice_index words k ≡ word_of (word_at key k)) → AreWords (key_expansion key) words nk
  own_words words are k h = are k h ∙ ap word_of (own_word k h)

  -- each word after them
  pub later_word : (i : ℕ) → nk ≤ i → i < 4 * nk + 28 → word_at (key_expansion key) i ≡ next_word nk (key_expansion key) i
  later_word i past within =
      let low : 1 ≤ nk = elim size [ inl four ↦ omega arith | inr eight ↦ omega arith ] in
      rw key_expansion-is (expanded-word nk key expansion i low long past (omega arith))

  -- the next word
  pub next_words : (words : List ℕ) (i term : ℕ) → nk ≤ i → i < 4 * nk + 28 → i < length words → AreWords (key_expansion key) words i
      → ((t : List ℕ) → IsOctets t → slice_index words (i - 1) ≡ word_of t → term ≡ word_of (key_term nk i t))
      → AreWords (key_expansion key) (set words i (bit_xor (slice_index words (i - nk)) term)) (i + 1)
  next_words words i term past within fits are made k h =
      let e = key_expansion key in
      let x : ℕ = bit_xor (slice_index words (i - nk)) term in
      elim (cases_lt k i) [
        | inl below ↦ get_or-set_other words i k x 0 (omega arith) ∙ are k below
        | inr top ↦
            let here : i ≡ k = omega arith in
            let t = word_at e (i - 1) in
            let ot : IsOctets t = IsOctets-word_at e (i - 1) key_expansion-octets in
            let term_is : term ≡ word_of (key_term nk i t) = made t ot (are (i - 1) (omega arith)) in
            rw (← here)
            (get_or-set_same words i x 0 fits
            ∙ ap (λ (y : ℕ). bit_xor y term) (are (i - nk) (omega arith)) ∙ ap (bit_xor (word_of (word_at e (i - nk)))) term_is
            ∙ word_of_sum (word_at e (i - nk)) (key_term nk i t) (IsOctets-word_at e (i - nk) key_expansion-octets) (IsOctets-key_term nk i t ot)
            ∙ ap word_of (sym (later_word i past within)))
      ]
