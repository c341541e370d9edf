-- What the tables of the inverse cipher hold, as rules on octets.
use Rattle.std.proofs.Common.{◌≡◌, ℕ, ◌<◌, true, bit_xor, slice_index, refl, sym, ap, ◌∙◌}
use Rattle.std.proofs.lemmas.Nat.{xor_comm}
use lib.Bits.{xor_assoc}
use Rattle.krb_crypto_block.specs.Polynomial.{times}
use Rattle.krb_crypto_block.specs.InverseCipher.{inverse_s_box}
use Rattle.krb_crypto_block.proofs.Tables.{same_below, same_below_at}
use Rattle.krb_crypto_block.proofs.AesLinear.{times_xor}
use Rattle.krb_crypto_block.specs.AesLanes.{inverse_images, inverse_linear, inverse_form, looked_up_at, linear_of}
use Rattle.krb_crypto_block.specs.declared.aes.tables.TheConstants.{D9_U, D9_V, DB_U, DB_V, DD_U, DD_V, DE_U, DE_V, E9_LOW, E9_HIGH, EB_LOW, EB_HIGH, ED_LOW, ED_HIGH, EE_LOW, EE_HIGH, INVERTED_U, INVERTED_V, INVERSE_LINEAR_LOW, INVERSE_LINEAR_HIGH}
use Rattle.krb_crypto_block.proofs.AesTables.{INVERSE_S_BOX, inverse_s_box_entry}
use Rattle.krb_crypto_block.proofs.AesTower.{xor_left_comm, image_sum_xor}

pub inverse_linear_xor : (x y : ℕ) → inverse_linear (bit_xor x y) ≡ bit_xor (inverse_linear x) (inverse_linear y)
unfolding inverse_linear
inverse_linear_xor x y = image_sum_xor inverse_images x y 8

pub inverse_linear_table : same_below (linear_of INVERSE_LINEAR_LOW INVERSE_LINEAR_HIGH) inverse_linear 256 ≡ true
unfolding inverse_linear
inverse_linear_table = refl

last_test : same_below (λ b. looked_up_at INVERTED_U INVERTED_V (inverse_form b)) (slice_index INVERSE_S_BOX) 256 ≡ true
unfolding inverse_linear
last_test = refl

pub inverted_is : (b : ℕ) → b < 256 → looked_up_at INVERTED_U INVERTED_V (inverse_form b) ≡ inverse_s_box b
inverted_is b h = same_below_at (λ b. looked_up_at INVERTED_U INVERTED_V (inverse_form b)) (slice_index INVERSE_S_BOX) 256 b last_test h ∙ inverse_s_box_entry b h

by14_test : same_below (λ b. looked_up_at DE_U DE_V (inverse_form b)) (λ b. inverse_linear (times 14 (slice_index INVERSE_S_BOX b))) 256 ≡ true
unfolding inverse_linear times
by14_test = refl

pub by14_is : (b : ℕ) → b < 256 → looked_up_at DE_U DE_V (inverse_form b) ≡ inverse_linear (times 14 (inverse_s_box b))
by14_is b h =
    same_below_at (λ b. looked_up_at DE_U DE_V (inverse_form b)) (λ b. inverse_linear (times 14 (slice_index INVERSE_S_BOX b))) 256 b by14_test h
    ∙ ap (λ (y : ℕ). inverse_linear (times 14 y)) (inverse_s_box_entry b h)

key14_test : same_below (linear_of EE_LOW EE_HIGH) (λ k. inverse_linear (times 14 k)) 256 ≡ true
unfolding inverse_linear times
key14_test = refl

pub key14_is : (k : ℕ) → k < 256 → linear_of EE_LOW EE_HIGH k ≡ inverse_linear (times 14 k)
key14_is k h = same_below_at (linear_of EE_LOW EE_HIGH) (λ k. inverse_linear (times 14 k)) 256 k key14_test h

by11_test : same_below (λ b. looked_up_at DB_U DB_V (inverse_form b)) (λ b. inverse_linear (times 11 (slice_index INVERSE_S_BOX b))) 256 ≡ true
unfolding inverse_linear times
by11_test = refl

pub by11_is : (b : ℕ) → b < 256 → looked_up_at DB_U DB_V (inverse_form b) ≡ inverse_linear (times 11 (inverse_s_box b))
by11_is b h =
    same_below_at (λ b. looked_up_at DB_U DB_V (inverse_form b)) (λ b. inverse_linear (times 11 (slice_index INVERSE_S_BOX b))) 256 b by11_test h
    ∙ ap (λ (y : ℕ). inverse_linear (times 11 y)) (inverse_s_box_entry b h)

key11_test : same_below (linear_of EB_LOW EB_HIGH) (λ k. inverse_linear (times 11 k)) 256 ≡ true
unfolding inverse_linear times
key11_test = refl

pub key11_is : (k : ℕ) → k < 256 → linear_of EB_LOW EB_HIGH k ≡ inverse_linear (times 11 k)
key11_is k h = same_below_at (linear_of EB_LOW EB_HIGH) (λ k. inverse_linear (times 11 k)) 256 k key11_test h

by13_test : same_below (λ b. looked_up_at DD_U DD_V (inverse_form b)) (λ b. inverse_linear (times 13 (slice_index INVERSE_S_BOX b))) 256 ≡ true
unfolding inverse_linear times
by13_test = refl

pub by13_is : (b : ℕ) → b < 256 → looked_up_at DD_U DD_V (inverse_form b) ≡ inverse_linear (times 13 (inverse_s_box b))
by13_is b h =
    same_below_at (λ b. looked_up_at DD_U DD_V (inverse_form b)) (λ b. inverse_linear (times 13 (slice_index INVERSE_S_BOX b))) 256 b by13_test h
    ∙ ap (λ (y : ℕ). inverse_linear (times 13 y)) (inverse_s_box_entry b h)

key13_test : same_below (linear_of ED_LOW ED_HIGH) (λ k. inverse_linear (times 13 k)) 256 ≡ true
unfolding inverse_linear times
key13_test = refl

pub key13_is : (k : ℕ) → k < 256 → linear_of ED_LOW ED_HIGH k ≡ inverse_linear (times 13 k)
key13_is k h = same_below_at (linear_of ED_LOW ED_HIGH) (λ k. inverse_linear (times 13 k)) 256 k key13_test h

by9_test : same_below (λ b. looked_up_at D9_U D9_V (inverse_form b)) (λ b. inverse_linear (times 9 (slice_index INVERSE_S_BOX b))) 256 ≡ true
unfolding inverse_linear times
by9_test = refl

pub by9_is : (b : ℕ) → b < 256 → looked_up_at D9_U D9_V (inverse_form b) ≡ inverse_linear (times 9 (inverse_s_box b))
by9_is b h =
    same_below_at (λ b. looked_up_at D9_U D9_V (inverse_form b)) (λ b. inverse_linear (times 9 (slice_index INVERSE_S_BOX b))) 256 b by9_test h
    ∙ ap (λ (y : ℕ). inverse_linear (times 9 y)) (inverse_s_box_entry b h)

key9_test : same_below (linear_of E9_LOW E9_HIGH) (λ k. inverse_linear (times 9 k)) 256 ≡ true
unfolding inverse_linear times
key9_test = refl

pub key9_is : (k : ℕ) → k < 256 → linear_of E9_LOW E9_HIGH k ≡ inverse_linear (times 9 k)
key9_is k h = same_below_at (linear_of E9_LOW E9_HIGH) (λ k. inverse_linear (times 9 k)) 256 k key9_test h

-- ---- one lane: its own octet, and the next three of its column

abbrev pub inverse_lane : ℕ → ℕ → ℕ → ℕ → ℕ → ℕ
inverse_lane a b c e k =
    bit_xor (bit_xor (bit_xor (looked_up_at DE_U DE_V (inverse_form a)) (inverse_form k)) (bit_xor (looked_up_at DD_U DD_V (inverse_form c)) (looked_up_at D9_U D9_V (inverse_form e)))) (looked_up_at DB_U DB_V (inverse_form b))

abbrev pub key_lane : ℕ → ℕ → ℕ → ℕ → ℕ
key_lane a b c e =
    bit_xor (bit_xor (linear_of EE_LOW EE_HIGH a) (bit_xor (linear_of ED_LOW ED_HIGH c) (linear_of E9_LOW E9_HIGH e))) (linear_of EB_LOW EB_HIGH b)

module _ (a b c e : ℕ) (ha : a < 256) (hb : b < 256) (hc : c < 256) (he : e < 256) where
  pub inverse_row0 : (k l m n : ℕ) → inverse_lane a b c e (bit_xor (bit_xor (bit_xor (times 14 k) (times 11 l)) (times 13 m)) (times 9 n)) ≡ inverse_form (bit_xor (bit_xor (bit_xor (times 14 (bit_xor (inverse_s_box a) k)) (times 11 (bit_xor (inverse_s_box b) l))) (times 13 (bit_xor (inverse_s_box c) m))) (times 9 (bit_xor (inverse_s_box e) n)))
  inverse_row0 k l m n =
      rw (by14_is a ha, by11_is b hb, by13_is c hc, by9_is e he)
      (simp (times_xor, inverse_linear_xor, xor_assoc, xor_comm, xor_left_comm) refl)

  pub key_row0 : key_lane a b c e ≡ inverse_linear (bit_xor (bit_xor (bit_xor (times 14 a) (times 11 b)) (times 13 c)) (times 9 e))
  key_row0 =
      rw (key14_is a ha, key11_is b hb, key13_is c hc, key9_is e he)
      (simp (inverse_linear_xor, xor_assoc, xor_comm, xor_left_comm) refl)

  pub inverse_row1 : (k l m n : ℕ) → inverse_lane a b c e (bit_xor (bit_xor (bit_xor (times 9 n) (times 14 k)) (times 11 l)) (times 13 m)) ≡ inverse_form (bit_xor (bit_xor (bit_xor (times 9 (bit_xor (inverse_s_box e) n)) (times 14 (bit_xor (inverse_s_box a) k))) (times 11 (bit_xor (inverse_s_box b) l))) (times 13 (bit_xor (inverse_s_box c) m)))
  inverse_row1 k l m n =
      rw (by14_is a ha, by11_is b hb, by13_is c hc, by9_is e he)
      (simp (times_xor, inverse_linear_xor, xor_assoc, xor_comm, xor_left_comm) refl)

  pub key_row1 : key_lane a b c e ≡ inverse_linear (bit_xor (bit_xor (bit_xor (times 9 e) (times 14 a)) (times 11 b)) (times 13 c))
  key_row1 =
      rw (key14_is a ha, key11_is b hb, key13_is c hc, key9_is e he)
      (simp (inverse_linear_xor, xor_assoc, xor_comm, xor_left_comm) refl)

  pub inverse_row2 : (k l m n : ℕ) → inverse_lane a b c e (bit_xor (bit_xor (bit_xor (times 13 m) (times 9 n)) (times 14 k)) (times 11 l)) ≡ inverse_form (bit_xor (bit_xor (bit_xor (times 13 (bit_xor (inverse_s_box c) m)) (times 9 (bit_xor (inverse_s_box e) n))) (times 14 (bit_xor (inverse_s_box a) k))) (times 11 (bit_xor (inverse_s_box b) l)))
  inverse_row2 k l m n =
      rw (by14_is a ha, by11_is b hb, by13_is c hc, by9_is e he)
      (simp (times_xor, inverse_linear_xor, xor_assoc, xor_comm, xor_left_comm) refl)

  pub key_row2 : key_lane a b c e ≡ inverse_linear (bit_xor (bit_xor (bit_xor (times 13 c) (times 9 e)) (times 14 a)) (times 11 b))
  key_row2 =
      rw (key14_is a ha, key11_is b hb, key13_is c hc, key9_is e he)
      (simp (inverse_linear_xor, xor_assoc, xor_comm, xor_left_comm) refl)

  pub inverse_row3 : (k l m n : ℕ) → inverse_lane a b c e (bit_xor (bit_xor (bit_xor (times 11 l) (times 13 m)) (times 9 n)) (times 14 k)) ≡ inverse_form (bit_xor (bit_xor (bit_xor (times 11 (bit_xor (inverse_s_box b) l)) (times 13 (bit_xor (inverse_s_box c) m))) (times 9 (bit_xor (inverse_s_box e) n))) (times 14 (bit_xor (inverse_s_box a) k)))
  inverse_row3 k l m n =
      rw (by14_is a ha, by11_is b hb, by13_is c hc, by9_is e he)
      (simp (times_xor, inverse_linear_xor, xor_assoc, xor_comm, xor_left_comm) refl)

  pub key_row3 : key_lane a b c e ≡ inverse_linear (bit_xor (bit_xor (bit_xor (times 11 b) (times 13 c)) (times 9 e)) (times 14 a))
  key_row3 =
      rw (key14_is a ha, key11_is b hb, key13_is c hc, key9_is e he)
      (simp (inverse_linear_xor, xor_assoc, xor_comm, xor_left_comm) refl)

pub inverse_form_xor : (a k : ℕ) → bit_xor (inverse_linear a) (inverse_form k) ≡ inverse_form (bit_xor a k)
inverse_form_xor a k = sym (inverse_linear_xor a (bit_xor k 0x63)) ∙ ap inverse_linear (sym (xor_assoc a k 0x63))
