-- The word tables: each entry is compared with its products by computation, and the four of a column add up to it.
use Rattle.std.proofs.Common.{◌≡◌, ℕ, ◌<◌, true, bit_xor, [], ◌∷◌, slice_index, refl, ap, ◌∙◌}
use Rattle.std.proofs.lemmas.Nat.{xor_lt}
use Rattle.krb_crypto_block.specs.Polynomial.{times}
use Rattle.krb_crypto_block.specs.SBox.{s_box}
use Rattle.krb_crypto_block.specs.Aes.{product_of_columns}
use Rattle.krb_crypto_block.specs.InverseCipher.{inverse_s_box}
use Rattle.krb_crypto_block.specs.AesWords.{word, word_of}
use Rattle.krb_crypto_block.proofs.AesTables.{S_BOX, INVERSE_S_BOX}
use Rattle.krb_crypto_aes_tables.specs.declared.encrypting_tables.TheConstants.{T0, T1, T2, T3}
use Rattle.krb_crypto_aes_tables.specs.declared.opening_tables.TheConstants.{D0, D1, D2, D3}
use Rattle.krb_crypto_block.proofs.Tables.{same_below, same_below_at}
use Rattle.krb_crypto_block.proofs.AesTables.{s_box_entry, inverse_s_box_entry}
use Rattle.krb_crypto_block.proofs.AesStates.{times_octet}
use Rattle.krb_crypto_block.proofs.AesWords.{word_xor}

-- ---- the tables

-- the word of four products of an octet
abbrev pub products : ℕ → ℕ → ℕ → ℕ → ℕ → ℕ
products p q r t y = word (times p y) (times q y) (times r y) (times t y)

t0_table : same_below (slice_index T0) (λ x. products 2 1 1 3 (slice_index S_BOX x)) 256 ≡ true
unfolding times
t0_table = refl

t1_table : same_below (slice_index T1) (λ x. products 3 2 1 1 (slice_index S_BOX x)) 256 ≡ true
unfolding times
t1_table = refl

t2_table : same_below (slice_index T2) (λ x. products 1 3 2 1 (slice_index S_BOX x)) 256 ≡ true
unfolding times
t2_table = refl

t3_table : same_below (slice_index T3) (λ x. products 1 1 3 2 (slice_index S_BOX x)) 256 ≡ true
unfolding times
t3_table = refl

pub t0_entry : (x : ℕ) → x < 256 → slice_index T0 x ≡ products 2 1 1 3 (s_box x)
t0_entry x h =
    same_below_at (slice_index T0) (λ y. products 2 1 1 3 (slice_index S_BOX y)) 256 x t0_table h
    ∙ ap (λ (y : ℕ). products 2 1 1 3 y) (s_box_entry x h)

pub t1_entry : (x : ℕ) → x < 256 → slice_index T1 x ≡ products 3 2 1 1 (s_box x)
t1_entry x h =
    same_below_at (slice_index T1) (λ y. products 3 2 1 1 (slice_index S_BOX y)) 256 x t1_table h
    ∙ ap (λ (y : ℕ). products 3 2 1 1 y) (s_box_entry x h)

pub t2_entry : (x : ℕ) → x < 256 → slice_index T2 x ≡ products 1 3 2 1 (s_box x)
t2_entry x h =
    same_below_at (slice_index T2) (λ y. products 1 3 2 1 (slice_index S_BOX y)) 256 x t2_table h
    ∙ ap (λ (y : ℕ). products 1 3 2 1 y) (s_box_entry x h)

pub t3_entry : (x : ℕ) → x < 256 → slice_index T3 x ≡ products 1 1 3 2 (s_box x)
t3_entry x h =
    same_below_at (slice_index T3) (λ y. products 1 1 3 2 (slice_index S_BOX y)) 256 x t3_table h
    ∙ ap (λ (y : ℕ). products 1 1 3 2 y) (s_box_entry x h)

d0_table : same_below (slice_index D0) (λ x. products 14 9 13 11 (slice_index INVERSE_S_BOX x)) 256 ≡ true
unfolding times
d0_table = refl

d1_table : same_below (slice_index D1) (λ x. products 11 14 9 13 (slice_index INVERSE_S_BOX x)) 256 ≡ true
unfolding times
d1_table = refl

d2_table : same_below (slice_index D2) (λ x. products 13 11 14 9 (slice_index INVERSE_S_BOX x)) 256 ≡ true
unfolding times
d2_table = refl

d3_table : same_below (slice_index D3) (λ x. products 9 13 11 14 (slice_index INVERSE_S_BOX x)) 256 ≡ true
unfolding times
d3_table = refl

pub d0_entry : (x : ℕ) → x < 256 → slice_index D0 x ≡ products 14 9 13 11 (inverse_s_box x)
d0_entry x h =
    same_below_at (slice_index D0) (λ y. products 14 9 13 11 (slice_index INVERSE_S_BOX y)) 256 x d0_table h
    ∙ ap (λ (y : ℕ). products 14 9 13 11 y) (inverse_s_box_entry x h)

pub d1_entry : (x : ℕ) → x < 256 → slice_index D1 x ≡ products 11 14 9 13 (inverse_s_box x)
d1_entry x h =
    same_below_at (slice_index D1) (λ y. products 11 14 9 13 (slice_index INVERSE_S_BOX y)) 256 x d1_table h
    ∙ ap (λ (y : ℕ). products 11 14 9 13 y) (inverse_s_box_entry x h)

pub d2_entry : (x : ℕ) → x < 256 → slice_index D2 x ≡ products 13 11 14 9 (inverse_s_box x)
d2_entry x h =
    same_below_at (slice_index D2) (λ y. products 13 11 14 9 (slice_index INVERSE_S_BOX y)) 256 x d2_table h
    ∙ ap (λ (y : ℕ). products 13 11 14 9 y) (inverse_s_box_entry x h)

pub d3_entry : (x : ℕ) → x < 256 → slice_index D3 x ≡ products 9 13 11 14 (inverse_s_box x)
d3_entry x h =
    same_below_at (slice_index D3) (λ y. products 9 13 11 14 (slice_index INVERSE_S_BOX y)) 256 x d3_table h
    ∙ ap (λ (y : ℕ). products 9 13 11 14 y) (inverse_s_box_entry x h)

-- ---- sums of words

pub xor4_same : (a b c d e f g h : ℕ) → a ≡ e → b ≡ f → c ≡ g → d ≡ h
    → bit_xor (bit_xor (bit_xor a b) c) d ≡ bit_xor (bit_xor (bit_xor e f) g) h
xor4_same a b c d e f g h p q r t = cc

-- four words of products add up to the product of a column, for any polynomial of small coefficients
module _ (p0 p1 p2 p3 a b c d : ℕ) (h0 : p0 < 16) (h1 : p1 < 16) (h2 : p2 < 16) (h3 : p3 < 16) (ha : a < 256) (hb : b < 256) (hc : c < 256) (hd : d < 256) where
  small2 : (p q x y : ℕ) → p < 16 → q < 16 → x < 256 → y < 256 → bit_xor (times p x) (times q y) < 256
  small2 p q x y hp hq hx hy = xor_lt 8 (times p x) (times q y) (times_octet p x hp hx) (times_octet q y hq hy)

  small3 : (p q r x y z : ℕ) → p < 16 → q < 16 → r < 16 → x < 256 → y < 256 → z < 256 → bit_xor (bit_xor (times p x) (times q y)) (times r z) < 256
  small3 p q r x y z hp hq hr hx hy hz = xor_lt 8 (bit_xor (times p x) (times q y)) (times r z) (small2 p q x y hp hq hx hy) (times_octet r z hr hz)

  pub products_sum : bit_xor (bit_xor (bit_xor (products p0 p1 p2 p3 a) (products p3 p0 p1 p2 b)) (products p2 p3 p0 p1 c)) (products p1 p2 p3 p0 d)
      ≡ word_of (product_of_columns (p0 ∷ p1 ∷ p2 ∷ p3 ∷ []) (a ∷ b ∷ c ∷ d ∷ []))
  products_sum =
      ap (λ (x : ℕ). bit_xor (bit_xor x (products p2 p3 p0 p1 c)) (products p1 p2 p3 p0 d))
      (word_xor (times p0 a) (times p1 a) (times p2 a) (times p3 a) (times p3 b) (times p0 b) (times p1 b) (times p2 b)
      (times_octet p1 a h1 ha) (times_octet p2 a h2 ha) (times_octet p3 a h3 ha) (times_octet p0 b h0 hb) (times_octet p1 b h1 hb) (times_octet p2 b h2 hb))
      ∙ ap (λ (x : ℕ). bit_xor x (products p1 p2 p3 p0 d))
      (word_xor _ _ _ _ (times p2 c) (times p3 c) (times p0 c) (times p1 c)
      (small2 p1 p0 a b h1 h0 ha hb) (small2 p2 p1 a b h2 h1 ha hb) (small2 p3 p2 a b h3 h2 ha hb)
      (times_octet p3 c h3 hc) (times_octet p0 c h0 hc) (times_octet p1 c h1 hc))
      ∙ word_xor _ _ _ _ (times p1 d) (times p2 d) (times p3 d) (times p0 d)
      (small3 p1 p0 p3 a b c h1 h0 h3 ha hb hc) (small3 p2 p1 p0 a b c h2 h1 h0 ha hb hc) (small3 p3 p2 p1 a b c h3 h2 h1 ha hb hc)
      (times_octet p2 d h2 hd) (times_octet p3 d h3 hd) (times_octet p0 d h0 hd)
