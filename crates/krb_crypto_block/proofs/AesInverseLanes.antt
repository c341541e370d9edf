-- Rounds of the inverse cipher on vectors.
use Rattle.std.proofs.Common.{◌≡◌, ℕ, ◌+◌, ◌*◌, bit_xor, List, [], ◌∷◌, map, slice_index, refl, sym, ap, ◌∙◌}
use lib.Lanes.{zip2}
use Rattle.krb_crypto_block.specs.Modes.{IsBlock}
use Rattle.krb_crypto_block.specs.Aes.{octet_at, state_of, add_round_key}
use Rattle.krb_crypto_block.specs.AesWords.{inverse_cipher_round, inverse_cipher_last}
use Rattle.krb_crypto_block.specs.InverseCipher.{inverse_sub_bytes, inverse_shift_rows, inverse_mix_columns}
use Rattle.krb_crypto_block.proofs.AesStates.{state_by_octets}
use Rattle.krb_crypto_block.specs.AesLanes.{inverse_linear, inverse_form, round_octets, looked_up_at, linear_of, permute_at, inverse_positions}
use Rattle.krb_crypto_block.specs.declared.aes.tables.TheConstants.{D9_U, D9_V, DB_U, DB_V, DD_U, DD_V, DE_U, DE_V, E9_LOW, E9_HIGH, EB_LOW, EB_HIGH, ED_LOW, ED_HIGH, EE_LOW, EE_HIGH, INVERTED_U, INVERTED_V}
use Rattle.krb_crypto_block.proofs.AesInverseForm.{inverse_row0, inverse_row1, inverse_row2, inverse_row3, key_row0, key_row1, key_row2, key_row3, inverted_is, inverse_form_xor}
use Rattle.krb_crypto_block.proofs.AesRoundLanes.{picked, same16}
use Rattle.krb_crypto_block.proofs.AesVectors.{map_of_map}

-- the lanes of a vector at these positions
abbrev pub unturned : List ℕ → ℕ → List ℕ
unturned v k = map (permute_at v) (inverse_positions k)

abbrev pub turned1 : List ℕ
turned1 = 1 ∷ 2 ∷ 3 ∷ 0 ∷ 5 ∷ 6 ∷ 7 ∷ 4 ∷ 9 ∷ 10 ∷ 11 ∷ 8 ∷ 13 ∷ 14 ∷ 15 ∷ 12 ∷ []

abbrev pub turned2 : List ℕ
turned2 = 2 ∷ 3 ∷ 0 ∷ 1 ∷ 6 ∷ 7 ∷ 4 ∷ 5 ∷ 10 ∷ 11 ∷ 8 ∷ 9 ∷ 14 ∷ 15 ∷ 12 ∷ 13 ∷ []

abbrev pub turned3 : List ℕ
turned3 = 3 ∷ 0 ∷ 1 ∷ 2 ∷ 7 ∷ 4 ∷ 5 ∷ 6 ∷ 11 ∷ 8 ∷ 9 ∷ 10 ∷ 15 ∷ 12 ∷ 13 ∷ 14 ∷ []

abbrev pub vector_inverse : List ℕ → List ℕ → List ℕ → List ℕ → List ℕ → List ℕ
vector_inverse own next third fourth key = zip2 bit_xor (zip2 bit_xor (zip2 bit_xor own key) (zip2 bit_xor third fourth)) next

abbrev pub vector_unmixed : List ℕ → List ℕ → List ℕ → List ℕ → List ℕ
vector_unmixed by14 by11 by13 by9 =
    zip2 bit_xor (zip2 bit_xor by14 (zip2 bit_xor (picked by13 turned2) (picked by9 turned3))) (picked by11 turned1)

lanes_of_inverse : (f g j i u : ℕ → ℕ) (h k : ℕ → ℕ → ℕ)
    → vector_inverse (unturned (map f (state_of h)) 0) (unturned (map g (state_of h)) 1) (unturned (map j (state_of h)) 2) (unturned (map i (state_of h)) 3) (map u (state_of k))
    ≡ bit_xor (bit_xor (bit_xor (f (h 0 0)) (u (k 0 0))) (bit_xor (j (h 2 2)) (i (h 3 1)))) (g (h 1 3))
    ∷ bit_xor (bit_xor (bit_xor (f (h 1 3)) (u (k 1 0))) (bit_xor (j (h 3 1)) (i (h 0 0)))) (g (h 2 2))
    ∷ bit_xor (bit_xor (bit_xor (f (h 2 2)) (u (k 2 0))) (bit_xor (j (h 0 0)) (i (h 1 3)))) (g (h 3 1))
    ∷ bit_xor (bit_xor (bit_xor (f (h 3 1)) (u (k 3 0))) (bit_xor (j (h 1 3)) (i (h 2 2)))) (g (h 0 0))
    ∷ bit_xor (bit_xor (bit_xor (f (h 0 1)) (u (k 0 1))) (bit_xor (j (h 2 3)) (i (h 3 2)))) (g (h 1 0))
    ∷ bit_xor (bit_xor (bit_xor (f (h 1 0)) (u (k 1 1))) (bit_xor (j (h 3 2)) (i (h 0 1)))) (g (h 2 3))
    ∷ bit_xor (bit_xor (bit_xor (f (h 2 3)) (u (k 2 1))) (bit_xor (j (h 0 1)) (i (h 1 0)))) (g (h 3 2))
    ∷ bit_xor (bit_xor (bit_xor (f (h 3 2)) (u (k 3 1))) (bit_xor (j (h 1 0)) (i (h 2 3)))) (g (h 0 1))
    ∷ bit_xor (bit_xor (bit_xor (f (h 0 2)) (u (k 0 2))) (bit_xor (j (h 2 0)) (i (h 3 3)))) (g (h 1 1))
    ∷ bit_xor (bit_xor (bit_xor (f (h 1 1)) (u (k 1 2))) (bit_xor (j (h 3 3)) (i (h 0 2)))) (g (h 2 0))
    ∷ bit_xor (bit_xor (bit_xor (f (h 2 0)) (u (k 2 2))) (bit_xor (j (h 0 2)) (i (h 1 1)))) (g (h 3 3))
    ∷ bit_xor (bit_xor (bit_xor (f (h 3 3)) (u (k 3 2))) (bit_xor (j (h 1 1)) (i (h 2 0)))) (g (h 0 2))
    ∷ bit_xor (bit_xor (bit_xor (f (h 0 3)) (u (k 0 3))) (bit_xor (j (h 2 1)) (i (h 3 0)))) (g (h 1 2))
    ∷ bit_xor (bit_xor (bit_xor (f (h 1 2)) (u (k 1 3))) (bit_xor (j (h 3 0)) (i (h 0 3)))) (g (h 2 1))
    ∷ bit_xor (bit_xor (bit_xor (f (h 2 1)) (u (k 2 3))) (bit_xor (j (h 0 3)) (i (h 1 2)))) (g (h 3 0))
    ∷ bit_xor (bit_xor (bit_xor (f (h 3 0)) (u (k 3 3))) (bit_xor (j (h 1 2)) (i (h 2 1)))) (g (h 0 3)) ∷ []
lanes_of_inverse f g j i u h k = refl

lanes_of_unmixed : (f g j i : ℕ → ℕ) (h : ℕ → ℕ → ℕ)
    → vector_unmixed (map f (state_of h)) (map g (state_of h)) (map j (state_of h)) (map i (state_of h))
    ≡ bit_xor (bit_xor (f (h 0 0)) (bit_xor (j (h 2 0)) (i (h 3 0)))) (g (h 1 0))
    ∷ bit_xor (bit_xor (f (h 1 0)) (bit_xor (j (h 3 0)) (i (h 0 0)))) (g (h 2 0))
    ∷ bit_xor (bit_xor (f (h 2 0)) (bit_xor (j (h 0 0)) (i (h 1 0)))) (g (h 3 0))
    ∷ bit_xor (bit_xor (f (h 3 0)) (bit_xor (j (h 1 0)) (i (h 2 0)))) (g (h 0 0))
    ∷ bit_xor (bit_xor (f (h 0 1)) (bit_xor (j (h 2 1)) (i (h 3 1)))) (g (h 1 1))
    ∷ bit_xor (bit_xor (f (h 1 1)) (bit_xor (j (h 3 1)) (i (h 0 1)))) (g (h 2 1))
    ∷ bit_xor (bit_xor (f (h 2 1)) (bit_xor (j (h 0 1)) (i (h 1 1)))) (g (h 3 1))
    ∷ bit_xor (bit_xor (f (h 3 1)) (bit_xor (j (h 1 1)) (i (h 2 1)))) (g (h 0 1))
    ∷ bit_xor (bit_xor (f (h 0 2)) (bit_xor (j (h 2 2)) (i (h 3 2)))) (g (h 1 2))
    ∷ bit_xor (bit_xor (f (h 1 2)) (bit_xor (j (h 3 2)) (i (h 0 2)))) (g (h 2 2))
    ∷ bit_xor (bit_xor (f (h 2 2)) (bit_xor (j (h 0 2)) (i (h 1 2)))) (g (h 3 2))
    ∷ bit_xor (bit_xor (f (h 3 2)) (bit_xor (j (h 1 2)) (i (h 2 2)))) (g (h 0 2))
    ∷ bit_xor (bit_xor (f (h 0 3)) (bit_xor (j (h 2 3)) (i (h 3 3)))) (g (h 1 3))
    ∷ bit_xor (bit_xor (f (h 1 3)) (bit_xor (j (h 3 3)) (i (h 0 3)))) (g (h 2 3))
    ∷ bit_xor (bit_xor (f (h 2 3)) (bit_xor (j (h 0 3)) (i (h 1 3)))) (g (h 3 3))
    ∷ bit_xor (bit_xor (f (h 3 3)) (bit_xor (j (h 1 3)) (i (h 2 3)))) (g (h 0 3)) ∷ []
lanes_of_unmixed f g j i h = refl

lanes_of_last : (f : ℕ → ℕ) (h k : ℕ → ℕ → ℕ) → zip2 bit_xor (unturned (map f (state_of h)) 0) (state_of k)
    ≡ bit_xor (f (h 0 0)) (k 0 0)
    ∷ bit_xor (f (h 1 3)) (k 1 0)
    ∷ bit_xor (f (h 2 2)) (k 2 0)
    ∷ bit_xor (f (h 3 1)) (k 3 0)
    ∷ bit_xor (f (h 0 1)) (k 0 1)
    ∷ bit_xor (f (h 1 0)) (k 1 1)
    ∷ bit_xor (f (h 2 3)) (k 2 1)
    ∷ bit_xor (f (h 3 2)) (k 3 1)
    ∷ bit_xor (f (h 0 2)) (k 0 2)
    ∷ bit_xor (f (h 1 1)) (k 1 2)
    ∷ bit_xor (f (h 2 0)) (k 2 2)
    ∷ bit_xor (f (h 3 3)) (k 3 2)
    ∷ bit_xor (f (h 0 3)) (k 0 3)
    ∷ bit_xor (f (h 1 2)) (k 1 3)
    ∷ bit_xor (f (h 2 1)) (k 2 3)
    ∷ bit_xor (f (h 3 0)) (k 3 3) ∷ []
lanes_of_last f h k = refl

lanes_of_start : (f u : ℕ → ℕ) (h k : ℕ → ℕ → ℕ) → zip2 bit_xor (map f (state_of h)) (map u (state_of k))
    ≡ bit_xor (f (h 0 0)) (u (k 0 0))
    ∷ bit_xor (f (h 1 0)) (u (k 1 0))
    ∷ bit_xor (f (h 2 0)) (u (k 2 0))
    ∷ bit_xor (f (h 3 0)) (u (k 3 0))
    ∷ bit_xor (f (h 0 1)) (u (k 0 1))
    ∷ bit_xor (f (h 1 1)) (u (k 1 1))
    ∷ bit_xor (f (h 2 1)) (u (k 2 1))
    ∷ bit_xor (f (h 3 1)) (u (k 3 1))
    ∷ bit_xor (f (h 0 2)) (u (k 0 2))
    ∷ bit_xor (f (h 1 2)) (u (k 1 2))
    ∷ bit_xor (f (h 2 2)) (u (k 2 2))
    ∷ bit_xor (f (h 3 2)) (u (k 3 2))
    ∷ bit_xor (f (h 0 3)) (u (k 0 3))
    ∷ bit_xor (f (h 1 3)) (u (k 1 3))
    ∷ bit_xor (f (h 2 3)) (u (k 2 3))
    ∷ bit_xor (f (h 3 3)) (u (k 3 3)) ∷ []
lanes_of_start f u h k = refl

-- a term of a round: what two tables hold of a state, at these positions
pub term_is : (s t st x looked at made : List ℕ) (k : ℕ) → x ≡ map inverse_form st → looked ≡ map (looked_up_at s t) x → at ≡ inverse_positions k
    → made ≡ map (permute_at looked) at → made ≡ unturned (map (λ b. looked_up_at s t (inverse_form b)) st) k
term_is s t st x looked at made k held is positions e =
    e ∙ ap (λ (v : List ℕ). map (permute_at v) at) (is ∙ map_of_map (looked_up_at s t) inverse_form st x held)
    ∙ ap (map (permute_at (map (λ b. looked_up_at s t (inverse_form b)) st))) positions

abbrev by14 : ℕ → ℕ
by14 b = looked_up_at DE_U DE_V (inverse_form b)

abbrev by11 : ℕ → ℕ
by11 b = looked_up_at DB_U DB_V (inverse_form b)

abbrev by13 : ℕ → ℕ
by13 b = looked_up_at DD_U DD_V (inverse_form b)

abbrev by9 : ℕ → ℕ
by9 b = looked_up_at D9_U D9_V (inverse_form b)

abbrev by_last : ℕ → ℕ
by_last b = looked_up_at INVERTED_U INVERTED_V (inverse_form b)

module _ (w st : List ℕ) (n : ℕ) (is : IsBlock 16 st) where
  abbrev at : ℕ → ℕ
  at i = slice_index st i

  abbrev key : ℕ → ℕ
  key i = slice_index w (16 * n + i)

  abbrev unmixed_key : List ℕ
  unmixed_key = map inverse_form (inverse_mix_columns (round_octets w n))

  inverse_lanes : vector_inverse (unturned (map by14 st) 0) (unturned (map by11 st) 1) (unturned (map by13 st) 2) (unturned (map by9 st) 3) unmixed_key ≡ map inverse_form (inverse_cipher_round w n st)
  unfolding inverse_sub_bytes inverse_shift_rows inverse_mix_columns add_round_key
  inverse_lanes =
      ap (λ (s : List ℕ). vector_inverse (unturned (map by14 s) 0) (unturned (map by11 s) 1) (unturned (map by13 s) 2) (unturned (map by9 s) 3) unmixed_key) (sym (state_by_octets st is.0))
      ∙ lanes_of_inverse by14 by11 by13 by9 inverse_form (octet_at st) (λ r c. octet_at (inverse_mix_columns (round_octets w n)) r c)
      ∙ same16 _ _ _ _ _ _ _ _ _ _ _ _ _ _ _ _ _ _ _ _ _ _ _ _ _ _ _ _ _ _ _ _
      (inverse_row0 (at 0) (at 13) (at 10) (at 7) (is.1 0) (is.1 13) (is.1 10) (is.1 7) (key 0) (key 1) (key 2) (key 3))
      (inverse_row1 (at 13) (at 10) (at 7) (at 0) (is.1 13) (is.1 10) (is.1 7) (is.1 0) (key 1) (key 2) (key 3) (key 0))
      (inverse_row2 (at 10) (at 7) (at 0) (at 13) (is.1 10) (is.1 7) (is.1 0) (is.1 13) (key 2) (key 3) (key 0) (key 1))
      (inverse_row3 (at 7) (at 0) (at 13) (at 10) (is.1 7) (is.1 0) (is.1 13) (is.1 10) (key 3) (key 0) (key 1) (key 2))
      (inverse_row0 (at 4) (at 1) (at 14) (at 11) (is.1 4) (is.1 1) (is.1 14) (is.1 11) (key 4) (key 5) (key 6) (key 7))
      (inverse_row1 (at 1) (at 14) (at 11) (at 4) (is.1 1) (is.1 14) (is.1 11) (is.1 4) (key 5) (key 6) (key 7) (key 4))
      (inverse_row2 (at 14) (at 11) (at 4) (at 1) (is.1 14) (is.1 11) (is.1 4) (is.1 1) (key 6) (key 7) (key 4) (key 5))
      (inverse_row3 (at 11) (at 4) (at 1) (at 14) (is.1 11) (is.1 4) (is.1 1) (is.1 14) (key 7) (key 4) (key 5) (key 6))
      (inverse_row0 (at 8) (at 5) (at 2) (at 15) (is.1 8) (is.1 5) (is.1 2) (is.1 15) (key 8) (key 9) (key 10) (key 11))
      (inverse_row1 (at 5) (at 2) (at 15) (at 8) (is.1 5) (is.1 2) (is.1 15) (is.1 8) (key 9) (key 10) (key 11) (key 8))
      (inverse_row2 (at 2) (at 15) (at 8) (at 5) (is.1 2) (is.1 15) (is.1 8) (is.1 5) (key 10) (key 11) (key 8) (key 9))
      (inverse_row3 (at 15) (at 8) (at 5) (at 2) (is.1 15) (is.1 8) (is.1 5) (is.1 2) (key 11) (key 8) (key 9) (key 10))
      (inverse_row0 (at 12) (at 9) (at 6) (at 3) (is.1 12) (is.1 9) (is.1 6) (is.1 3) (key 12) (key 13) (key 14) (key 15))
      (inverse_row1 (at 9) (at 6) (at 3) (at 12) (is.1 9) (is.1 6) (is.1 3) (is.1 12) (key 13) (key 14) (key 15) (key 12))
      (inverse_row2 (at 6) (at 3) (at 12) (at 9) (is.1 6) (is.1 3) (is.1 12) (is.1 9) (key 14) (key 15) (key 12) (key 13))
      (inverse_row3 (at 3) (at 12) (at 9) (at 6) (is.1 3) (is.1 12) (is.1 9) (is.1 6) (key 15) (key 12) (key 13) (key 14))

  pub inverse_round_is : (k own next third fourth : List ℕ) → k ≡ map inverse_form (inverse_mix_columns (round_octets w n))
      → own ≡ unturned (map by14 st) 0 → next ≡ unturned (map by11 st) 1 → third ≡ unturned (map by13 st) 2 → fourth ≡ unturned (map by9 st) 3
      → vector_inverse own next third fourth k ≡ map inverse_form (inverse_cipher_round w n st)
  inverse_round_is k own next third fourth has e14 e11 e13 e9 =
      ap (λ (v : List ℕ). vector_inverse v next third fourth k) e14
      ∙ ap (λ (v : List ℕ). vector_inverse (unturned (map by14 st) 0) v third fourth k) e11
      ∙ ap (λ (v : List ℕ). vector_inverse (unturned (map by14 st) 0) (unturned (map by11 st) 1) v fourth k) e13
      ∙ ap (λ (v : List ℕ). vector_inverse (unturned (map by14 st) 0) (unturned (map by11 st) 1) (unturned (map by13 st) 2) v k) e9
      ∙ ap (vector_inverse (unturned (map by14 st) 0) (unturned (map by11 st) 1) (unturned (map by13 st) 2) (unturned (map by9 st) 3)) has ∙ inverse_lanes

  last_lanes : zip2 bit_xor (unturned (map by_last st) 0) (round_octets w 0) ≡ inverse_cipher_last w st
  unfolding inverse_sub_bytes inverse_shift_rows add_round_key
  last_lanes =
      ap (λ (s : List ℕ). zip2 bit_xor (unturned (map by_last s) 0) (round_octets w 0)) (sym (state_by_octets st is.0))
      ∙ lanes_of_last by_last (octet_at st) (λ r c. slice_index w (16 * 0 + (r + 4 * c)))
      ∙ same16 _ _ _ _ _ _ _ _ _ _ _ _ _ _ _ _ _ _ _ _ _ _ _ _ _ _ _ _ _ _ _ _
      (ap (λ (y : ℕ). bit_xor y (slice_index w (16 * 0 + 0))) (inverted_is (at 0) (is.1 0)))
      (ap (λ (y : ℕ). bit_xor y (slice_index w (16 * 0 + 1))) (inverted_is (at 13) (is.1 13)))
      (ap (λ (y : ℕ). bit_xor y (slice_index w (16 * 0 + 2))) (inverted_is (at 10) (is.1 10)))
      (ap (λ (y : ℕ). bit_xor y (slice_index w (16 * 0 + 3))) (inverted_is (at 7) (is.1 7)))
      (ap (λ (y : ℕ). bit_xor y (slice_index w (16 * 0 + 4))) (inverted_is (at 4) (is.1 4)))
      (ap (λ (y : ℕ). bit_xor y (slice_index w (16 * 0 + 5))) (inverted_is (at 1) (is.1 1)))
      (ap (λ (y : ℕ). bit_xor y (slice_index w (16 * 0 + 6))) (inverted_is (at 14) (is.1 14)))
      (ap (λ (y : ℕ). bit_xor y (slice_index w (16 * 0 + 7))) (inverted_is (at 11) (is.1 11)))
      (ap (λ (y : ℕ). bit_xor y (slice_index w (16 * 0 + 8))) (inverted_is (at 8) (is.1 8)))
      (ap (λ (y : ℕ). bit_xor y (slice_index w (16 * 0 + 9))) (inverted_is (at 5) (is.1 5)))
      (ap (λ (y : ℕ). bit_xor y (slice_index w (16 * 0 + 10))) (inverted_is (at 2) (is.1 2)))
      (ap (λ (y : ℕ). bit_xor y (slice_index w (16 * 0 + 11))) (inverted_is (at 15) (is.1 15)))
      (ap (λ (y : ℕ). bit_xor y (slice_index w (16 * 0 + 12))) (inverted_is (at 12) (is.1 12)))
      (ap (λ (y : ℕ). bit_xor y (slice_index w (16 * 0 + 13))) (inverted_is (at 9) (is.1 9)))
      (ap (λ (y : ℕ). bit_xor y (slice_index w (16 * 0 + 14))) (inverted_is (at 6) (is.1 6)))
      (ap (λ (y : ℕ). bit_xor y (slice_index w (16 * 0 + 15))) (inverted_is (at 3) (is.1 3)))

  pub inverse_last_is : (k own : List ℕ) → k ≡ round_octets w 0 → own ≡ unturned (map by_last st) 0 → zip2 bit_xor own k ≡ inverse_cipher_last w st
  inverse_last_is k own has e = ap (λ (v : List ℕ). zip2 bit_xor v k) e ∙ ap (zip2 bit_xor (unturned (map by_last st) 0)) has ∙ last_lanes

  -- the last key is added first
  pub inverse_start_is : (x k : List ℕ) → x ≡ map inverse_linear st → k ≡ map inverse_form (round_octets w n) → zip2 bit_xor x k ≡ map inverse_form (add_round_key w n st)
  unfolding add_round_key
  inverse_start_is x k held has =
      ap (λ (v : List ℕ). zip2 bit_xor v k) (held ∙ ap (map inverse_linear) (sym (state_by_octets st is.0)))
      ∙ ap (zip2 bit_xor (map inverse_linear (state_of (octet_at st)))) has
      ∙ lanes_of_start inverse_linear inverse_form (octet_at st) (λ r c. slice_index w (16 * n + (r + 4 * c)))
      ∙ same16 _ _ _ _ _ _ _ _ _ _ _ _ _ _ _ _ _ _ _ _ _ _ _ _ _ _ _ _ _ _ _ _
      (inverse_form_xor (at 0) (key 0))
      (inverse_form_xor (at 1) (key 1))
      (inverse_form_xor (at 2) (key 2))
      (inverse_form_xor (at 3) (key 3))
      (inverse_form_xor (at 4) (key 4))
      (inverse_form_xor (at 5) (key 5))
      (inverse_form_xor (at 6) (key 6))
      (inverse_form_xor (at 7) (key 7))
      (inverse_form_xor (at 8) (key 8))
      (inverse_form_xor (at 9) (key 9))
      (inverse_form_xor (at 10) (key 10))
      (inverse_form_xor (at 11) (key 11))
      (inverse_form_xor (at 12) (key 12))
      (inverse_form_xor (at 13) (key 13))
      (inverse_form_xor (at 14) (key 14))
      (inverse_form_xor (at 15) (key 15))

module _ (st : List ℕ) (is : IsBlock 16 st) where
  abbrev key_at : ℕ → ℕ
  key_at i = slice_index st i

  pub unmixed_is : vector_unmixed (map (linear_of EE_LOW EE_HIGH) st) (map (linear_of EB_LOW EB_HIGH) st) (map (linear_of ED_LOW ED_HIGH) st) (map (linear_of E9_LOW E9_HIGH) st)
      ≡ map inverse_linear (inverse_mix_columns st)
  unfolding inverse_mix_columns
  unmixed_is =
      ap (λ (s : List ℕ). vector_unmixed (map (linear_of EE_LOW EE_HIGH) s) (map (linear_of EB_LOW EB_HIGH) s) (map (linear_of ED_LOW ED_HIGH) s) (map (linear_of E9_LOW E9_HIGH) s)) (sym (state_by_octets st is.0))
      ∙ lanes_of_unmixed (linear_of EE_LOW EE_HIGH) (linear_of EB_LOW EB_HIGH) (linear_of ED_LOW ED_HIGH) (linear_of E9_LOW E9_HIGH) (octet_at st)
      ∙ same16 _ _ _ _ _ _ _ _ _ _ _ _ _ _ _ _ _ _ _ _ _ _ _ _ _ _ _ _ _ _ _ _
      (key_row0 (key_at 0) (key_at 1) (key_at 2) (key_at 3) (is.1 0) (is.1 1) (is.1 2) (is.1 3))
      (key_row1 (key_at 1) (key_at 2) (key_at 3) (key_at 0) (is.1 1) (is.1 2) (is.1 3) (is.1 0))
      (key_row2 (key_at 2) (key_at 3) (key_at 0) (key_at 1) (is.1 2) (is.1 3) (is.1 0) (is.1 1))
      (key_row3 (key_at 3) (key_at 0) (key_at 1) (key_at 2) (is.1 3) (is.1 0) (is.1 1) (is.1 2))
      (key_row0 (key_at 4) (key_at 5) (key_at 6) (key_at 7) (is.1 4) (is.1 5) (is.1 6) (is.1 7))
      (key_row1 (key_at 5) (key_at 6) (key_at 7) (key_at 4) (is.1 5) (is.1 6) (is.1 7) (is.1 4))
      (key_row2 (key_at 6) (key_at 7) (key_at 4) (key_at 5) (is.1 6) (is.1 7) (is.1 4) (is.1 5))
      (key_row3 (key_at 7) (key_at 4) (key_at 5) (key_at 6) (is.1 7) (is.1 4) (is.1 5) (is.1 6))
      (key_row0 (key_at 8) (key_at 9) (key_at 10) (key_at 11) (is.1 8) (is.1 9) (is.1 10) (is.1 11))
      (key_row1 (key_at 9) (key_at 10) (key_at 11) (key_at 8) (is.1 9) (is.1 10) (is.1 11) (is.1 8))
      (key_row2 (key_at 10) (key_at 11) (key_at 8) (key_at 9) (is.1 10) (is.1 11) (is.1 8) (is.1 9))
      (key_row3 (key_at 11) (key_at 8) (key_at 9) (key_at 10) (is.1 11) (is.1 8) (is.1 9) (is.1 10))
      (key_row0 (key_at 12) (key_at 13) (key_at 14) (key_at 15) (is.1 12) (is.1 13) (is.1 14) (is.1 15))
      (key_row1 (key_at 13) (key_at 14) (key_at 15) (key_at 12) (is.1 13) (is.1 14) (is.1 15) (is.1 12))
      (key_row2 (key_at 14) (key_at 15) (key_at 12) (key_at 13) (is.1 14) (is.1 15) (is.1 12) (is.1 13))
      (key_row3 (key_at 15) (key_at 12) (key_at 13) (key_at 14) (is.1 15) (is.1 12) (is.1 13) (is.1 14))
