-- What the tables hold, as rules on octets.
use Rattle.std.proofs.Common.{◌≡◌, ℕ, zero, suc, ◌*◌, ◌<◌, true, List, bit_xor, slice_index, refl, sym, ap, ◌∙◌}
use Rattle.std.specs.Int.{bit_at}
use Rattle.std.proofs.lemmas.Nat.{xor_comm}
use Rattle.std.proofs.lemmas.Nat.Bits.{bit_at_xor, bit_at-lt}
use lib.Bits.{xor_assoc, xor_self, xor_zero_l}
use Rattle.krb_crypto_block.specs.Polynomial.{times}
use Rattle.krb_crypto_block.specs.SBox.{s_box}
use Rattle.krb_crypto_block.proofs.Tables.{same_below, same_below_at}
use Rattle.krb_crypto_block.proofs.AesTables.{S_BOX, s_box_entry, s_box_octet}
use Rattle.krb_crypto_block.proofs.AesLinear.{xor_medial, scale_xor}
use Rattle.krb_crypto_block.specs.AesLanes.{tower_images, image_sum, tower, linear_of, looked_up_at}
use Rattle.krb_crypto_block.specs.declared.aes.tables.TheConstants.{ONCE_U, ONCE_V, TWICE_U, TWICE_V, LAST_U, LAST_V, TO_LOW, TO_HIGH}

-- ---- sums

pub xor_left_comm : (a b c : ℕ) → bit_xor a (bit_xor b c) ≡ bit_xor b (bit_xor a c)
xor_left_comm a b c = sym (xor_assoc a b c) ∙ ap (λ (x : ℕ). bit_xor x c) (xor_comm a b) ∙ xor_assoc b a c

pub xor_back : (a b : ℕ) → bit_xor a (bit_xor a b) ≡ b
xor_back a b = sym (xor_assoc a a b) ∙ ap (λ (x : ℕ). bit_xor x b) (xor_self a) ∙ xor_zero_l b

pub image_sum_xor : (images : List ℕ) (x y n : ℕ) → image_sum images (bit_xor x y) n ≡ bit_xor (image_sum images x n) (image_sum images y n)
image_sum_xor images x y zero = refl
image_sum_xor images x y (suc i) =
    let m = slice_index images i in
    let here : bit_at (bit_xor x y) i * m ≡ bit_xor (bit_at x i * m) (bit_at y i * m) =
    ap (λ (b : ℕ). b * m) (bit_at_xor x y i) ∙ scale_xor (bit_at x i) (bit_at y i) m (bit_at-lt x i) (bit_at-lt y i) in
    ap (λ (z : ℕ). bit_xor z (image_sum images (bit_xor x y) i)) here
    ∙ ap (bit_xor (bit_xor (bit_at x i * m) (bit_at y i * m))) (image_sum_xor images x y i)
    ∙ xor_medial (bit_at x i * m) (bit_at y i * m) (image_sum images x i) (image_sum images y i)

pub tower_xor : (x y : ℕ) → tower (bit_xor x y) ≡ bit_xor (tower x) (tower y)
unfolding tower
tower_xor x y = image_sum_xor tower_images x y 8

-- ---- tables

pub tower_table : same_below (linear_of TO_LOW TO_HIGH) tower 256 ≡ true
unfolding tower
tower_table = refl

once_table : same_below (λ b. looked_up_at ONCE_U ONCE_V (tower b)) (λ b. bit_xor (tower (slice_index S_BOX b)) (tower 0x63)) 256 ≡ true
unfolding tower
once_table = refl

pub once_is : (b : ℕ) → b < 256 → looked_up_at ONCE_U ONCE_V (tower b) ≡ bit_xor (tower (s_box b)) (tower 0x63)
once_is b h =
    same_below_at (λ b. looked_up_at ONCE_U ONCE_V (tower b)) (λ b. bit_xor (tower (slice_index S_BOX b)) (tower 0x63)) 256 b once_table h
    ∙ ap (λ (y : ℕ). bit_xor (tower y) (tower 0x63)) (s_box_entry b h)

twice_table : same_below (λ b. looked_up_at TWICE_U TWICE_V (tower b)) (λ b. bit_xor (tower (times 2 (slice_index S_BOX b))) (tower 0xc6)) 256 ≡ true
unfolding tower times
twice_table = refl

pub twice_is : (b : ℕ) → b < 256 → looked_up_at TWICE_U TWICE_V (tower b) ≡ bit_xor (tower (times 2 (s_box b))) (tower 0xc6)
twice_is b h =
    same_below_at (λ b. looked_up_at TWICE_U TWICE_V (tower b)) (λ b. bit_xor (tower (times 2 (slice_index S_BOX b))) (tower 0xc6)) 256 b twice_table h
    ∙ ap (λ (y : ℕ). bit_xor (tower (times 2 y)) (tower 0xc6)) (s_box_entry b h)

last_table : same_below (λ b. looked_up_at LAST_U LAST_V (tower b)) (λ b. bit_xor (slice_index S_BOX b) 0x63) 256 ≡ true
unfolding tower
last_table = refl

pub last_is : (b : ℕ) → b < 256 → looked_up_at LAST_U LAST_V (tower b) ≡ bit_xor (s_box b) 0x63
last_is b h =
    same_below_at (λ b. looked_up_at LAST_U LAST_V (tower b)) (λ b. bit_xor (slice_index S_BOX b) 0x63) 256 b last_table h
    ∙ ap (λ (y : ℕ). bit_xor y 0x63) (s_box_entry b h)

times_one_table : same_below (times 1) (λ y. y) 256 ≡ true
unfolding times
times_one_table = refl

times_three_table : same_below (times 3) (λ y. bit_xor (times 2 y) y) 256 ≡ true
unfolding times
times_three_table = refl

-- ---- one lane of a round: its own octet, and the next three of its column

abbrev pub once_of : ℕ → ℕ
once_of a = looked_up_at ONCE_U ONCE_V (tower a)

abbrev pub twice_of : ℕ → ℕ
twice_of a = looked_up_at TWICE_U TWICE_V (tower a)

abbrev pub lane_of : ℕ → ℕ → ℕ → ℕ → ℕ → ℕ
lane_of a b c e k =
    bit_xor (bit_xor (bit_xor (twice_of a) (tower (bit_xor k 0x63))) (bit_xor (once_of c) (once_of e))) (bit_xor (once_of b) (twice_of b))

module _ (a b c e k : ℕ) (ha : a < 256) (hb : b < 256) (hc : c < 256) (he : e < 256) where
  one : (x : ℕ) → x < 256 → times 1 (s_box x) ≡ s_box x
  one x h = same_below_at (times 1) (λ y. y) 256 (s_box x) times_one_table (s_box_octet x h)

  three : times 3 (s_box b) ≡ bit_xor (times 2 (s_box b)) (s_box b)
  three = same_below_at (times 3) (λ y. bit_xor (times 2 y) y) 256 (s_box b) times_three_table (s_box_octet b hb)

  -- the sum of the products, in tower form
  abbrev products : ℕ
  products = bit_xor (tower (times 2 (s_box a))) (bit_xor (tower (times 2 (s_box b))) (bit_xor (tower (s_box b)) (bit_xor (tower (s_box c)) (bit_xor (tower (s_box e)) (tower k)))))

  lane_is : lane_of a b c e k ≡ products
  lane_is =
      rw (once_is b hb, once_is c hc, once_is e he, twice_is a ha, twice_is b hb, tower_xor k 0x63)
      (simp (xor_assoc, xor_comm, xor_left_comm, xor_back) refl)

  pub row0 : lane_of a b c e k ≡ tower (bit_xor (bit_xor (bit_xor (bit_xor (times 2 (s_box a)) (times 3 (s_box b))) (times 1 (s_box c))) (times 1 (s_box e))) k)
  row0 = lane_is ∙ sym (rw (three, one c hc, one e he) (simp (tower_xor, xor_assoc, xor_comm, xor_left_comm) refl))

  pub row1 : lane_of a b c e k ≡ tower (bit_xor (bit_xor (bit_xor (bit_xor (times 1 (s_box e)) (times 2 (s_box a))) (times 3 (s_box b))) (times 1 (s_box c))) k)
  row1 = lane_is ∙ sym (rw (three, one c hc, one e he) (simp (tower_xor, xor_assoc, xor_comm, xor_left_comm) refl))

  pub row2 : lane_of a b c e k ≡ tower (bit_xor (bit_xor (bit_xor (bit_xor (times 1 (s_box c)) (times 1 (s_box e))) (times 2 (s_box a))) (times 3 (s_box b))) k)
  row2 = lane_is ∙ sym (rw (three, one c hc, one e he) (simp (tower_xor, xor_assoc, xor_comm, xor_left_comm) refl))

  pub row3 : lane_of a b c e k ≡ tower (bit_xor (bit_xor (bit_xor (bit_xor (times 3 (s_box b)) (times 1 (s_box c))) (times 1 (s_box e))) (times 2 (s_box a))) k)
  row3 = lane_is ∙ sym (rw (three, one c hc, one e he) (simp (tower_xor, xor_assoc, xor_comm, xor_left_comm) refl))
