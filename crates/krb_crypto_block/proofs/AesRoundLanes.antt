-- Rounds on vectors are the rounds.
use Rattle.std.proofs.Common.{◌≡◌, ℕ, ◌+◌, ◌*◌, ◌<◌, bit_xor, List, [], ◌∷◌, ◌++◌, map, slice_index, refl, sym, ap, ◌∙◌}
use lib.Bits.{xor_zero_r}
use lib.Lanes.{zip2, pick_l}
use Rattle.krb_crypto_block.specs.Modes.{IsBlock}
use Rattle.krb_crypto_block.specs.SBox.{s_box}
use Rattle.krb_crypto_block.specs.Aes.{octet_at, state_of, sub_bytes, shift_rows, mix_columns, add_round_key, round, last_round}
use Rattle.krb_crypto_block.proofs.AesStates.{state_by_octets}
use Rattle.krb_crypto_block.specs.AesLanes.{tower, with_constant, round_octets, looked_up_at}
use Rattle.krb_crypto_block.specs.declared.aes.tables.TheConstants.{ONCE_U, ONCE_V, TWICE_U, TWICE_V, LAST_U, LAST_V}
use Rattle.krb_crypto_block.proofs.AesLinear.{xor_medial}
use Rattle.krb_crypto_block.proofs.AesTower.{tower_xor, once_of, twice_of, row0, row1, row2, row3, last_is}
use Rattle.krb_crypto_block.proofs.AesVectors.{map_of_map}

abbrev pub rows0 : List ℕ
rows0 = 0 ∷ 5 ∷ 10 ∷ 15 ∷ 4 ∷ 9 ∷ 14 ∷ 3 ∷ 8 ∷ 13 ∷ 2 ∷ 7 ∷ 12 ∷ 1 ∷ 6 ∷ 11 ∷ []

abbrev pub rows1 : List ℕ
rows1 = 5 ∷ 10 ∷ 15 ∷ 0 ∷ 9 ∷ 14 ∷ 3 ∷ 4 ∷ 13 ∷ 2 ∷ 7 ∷ 8 ∷ 1 ∷ 6 ∷ 11 ∷ 12 ∷ []

abbrev pub rows2 : List ℕ
rows2 = 10 ∷ 15 ∷ 0 ∷ 5 ∷ 14 ∷ 3 ∷ 4 ∷ 9 ∷ 2 ∷ 7 ∷ 8 ∷ 13 ∷ 6 ∷ 11 ∷ 12 ∷ 1 ∷ []

abbrev pub rows3 : List ℕ
rows3 = 15 ∷ 0 ∷ 5 ∷ 10 ∷ 3 ∷ 4 ∷ 9 ∷ 14 ∷ 7 ∷ 8 ∷ 13 ∷ 2 ∷ 11 ∷ 12 ∷ 1 ∷ 6 ∷ []

-- the lanes of a vector at these positions
abbrev pub picked : List ℕ → List ℕ → List ℕ
picked v q = pick_l 0 (v ++ v) q

abbrev pub vector_round : List ℕ → List ℕ → List ℕ → List ℕ
vector_round once twice key =
    zip2 bit_xor (zip2 bit_xor (zip2 bit_xor (picked twice rows0) key) (zip2 bit_xor (picked once rows2) (picked once rows3)))
    (picked (zip2 bit_xor once twice) rows1)

abbrev lane : (ℕ → ℕ) → (ℕ → ℕ) → (ℕ → ℕ) → ℕ → ℕ → ℕ → ℕ → ℕ → ℕ
lane f g u a b c e k = bit_xor (bit_xor (bit_xor (g a) (u k)) (bit_xor (f c) (f e))) (bit_xor (f b) (g b))

pub same16 : (a0 a1 a2 a3 a4 a5 a6 a7 a8 a9 a10 a11 a12 a13 a14 a15 b0 b1 b2 b3 b4 b5 b6 b7 b8 b9 b10 b11 b12 b13 b14 b15 : ℕ)
    → a0 ≡ b0 → a1 ≡ b1 → a2 ≡ b2 → a3 ≡ b3 → a4 ≡ b4 → a5 ≡ b5 → a6 ≡ b6 → a7 ≡ b7 → a8 ≡ b8 → a9 ≡ b9 → a10 ≡ b10 → a11 ≡ b11 → a12 ≡ b12 → a13 ≡ b13 → a14 ≡ b14 → a15 ≡ b15
    → a0 ∷ a1 ∷ a2 ∷ a3 ∷ a4 ∷ a5 ∷ a6 ∷ a7 ∷ a8 ∷ a9 ∷ a10 ∷ a11 ∷ a12 ∷ a13 ∷ a14 ∷ a15 ∷ [] ≡ b0 ∷ b1 ∷ b2 ∷ b3 ∷ b4 ∷ b5 ∷ b6 ∷ b7 ∷ b8 ∷ b9 ∷ b10 ∷ b11 ∷ b12 ∷ b13 ∷ b14 ∷ b15 ∷ []
same16 a0 a1 a2 a3 a4 a5 a6 a7 a8 a9 a10 a11 a12 a13 a14 a15 b0 b1 b2 b3 b4 b5 b6 b7 b8 b9 b10 b11 b12 b13 b14 b15 e0 e1 e2 e3 e4 e5 e6 e7 e8 e9 e10 e11 e12 e13 e14 e15 = cc

lanes_of_round : (f g u : ℕ → ℕ) (h k : ℕ → ℕ → ℕ)
    → vector_round (map f (state_of h)) (map g (state_of h)) (map u (state_of k))
    ≡ lane f g u (h 0 0) (h 1 1) (h 2 2) (h 3 3) (k 0 0)
    ∷ lane f g u (h 1 1) (h 2 2) (h 3 3) (h 0 0) (k 1 0)
    ∷ lane f g u (h 2 2) (h 3 3) (h 0 0) (h 1 1) (k 2 0)
    ∷ lane f g u (h 3 3) (h 0 0) (h 1 1) (h 2 2) (k 3 0)
    ∷ lane f g u (h 0 1) (h 1 2) (h 2 3) (h 3 0) (k 0 1)
    ∷ lane f g u (h 1 2) (h 2 3) (h 3 0) (h 0 1) (k 1 1)
    ∷ lane f g u (h 2 3) (h 3 0) (h 0 1) (h 1 2) (k 2 1)
    ∷ lane f g u (h 3 0) (h 0 1) (h 1 2) (h 2 3) (k 3 1)
    ∷ lane f g u (h 0 2) (h 1 3) (h 2 0) (h 3 1) (k 0 2)
    ∷ lane f g u (h 1 3) (h 2 0) (h 3 1) (h 0 2) (k 1 2)
    ∷ lane f g u (h 2 0) (h 3 1) (h 0 2) (h 1 3) (k 2 2)
    ∷ lane f g u (h 3 1) (h 0 2) (h 1 3) (h 2 0) (k 3 2)
    ∷ lane f g u (h 0 3) (h 1 0) (h 2 1) (h 3 2) (k 0 3)
    ∷ lane f g u (h 1 0) (h 2 1) (h 3 2) (h 0 3) (k 1 3)
    ∷ lane f g u (h 2 1) (h 3 2) (h 0 3) (h 1 0) (k 2 3)
    ∷ lane f g u (h 3 2) (h 0 3) (h 1 0) (h 2 1) (k 3 3) ∷ []
lanes_of_round f g u h k = refl

lanes_of_last : (f u : ℕ → ℕ) (h k : ℕ → ℕ → ℕ)
    → zip2 bit_xor (picked (map f (state_of h)) rows0) (map u (state_of k))
    ≡ bit_xor (f (h 0 0)) (u (k 0 0))
    ∷ bit_xor (f (h 1 1)) (u (k 1 0))
    ∷ bit_xor (f (h 2 2)) (u (k 2 0))
    ∷ bit_xor (f (h 3 3)) (u (k 3 0))
    ∷ bit_xor (f (h 0 1)) (u (k 0 1))
    ∷ bit_xor (f (h 1 2)) (u (k 1 1))
    ∷ bit_xor (f (h 2 3)) (u (k 2 1))
    ∷ bit_xor (f (h 3 0)) (u (k 3 1))
    ∷ bit_xor (f (h 0 2)) (u (k 0 2))
    ∷ bit_xor (f (h 1 3)) (u (k 1 2))
    ∷ bit_xor (f (h 2 0)) (u (k 2 2))
    ∷ bit_xor (f (h 3 1)) (u (k 3 2))
    ∷ bit_xor (f (h 0 3)) (u (k 0 3))
    ∷ bit_xor (f (h 1 0)) (u (k 1 3))
    ∷ bit_xor (f (h 2 1)) (u (k 2 3))
    ∷ bit_xor (f (h 3 2)) (u (k 3 3)) ∷ []
lanes_of_last f u h k = refl

pub last_lane : (a k : ℕ) → a < 256 → bit_xor (looked_up_at LAST_U LAST_V (tower a)) (with_constant k) ≡ bit_xor (s_box a) k
last_lane a k h = rw (last_is a h) (xor_medial (s_box a) 0x63 k 0x63 ∙ xor_zero_r (bit_xor (s_box a) k))

module _ (w st : List ℕ) (n : ℕ) (is : IsBlock 16 st) where
  abbrev at : ℕ → ℕ
  at i = slice_index st i

  abbrev key : ℕ → ℕ
  key i = slice_index w (16 * n + i)

  round_lanes : vector_round (map once_of st) (map twice_of st) (map (λ k. tower (with_constant k)) (round_octets w n)) ≡ map tower (round w n st)
  unfolding sub_bytes shift_rows mix_columns add_round_key
  round_lanes =
      ap (λ (s : List ℕ). vector_round (map once_of s) (map twice_of s) (map (λ k. tower (with_constant k)) (round_octets w n))) (sym (state_by_octets st is.0))
      ∙ lanes_of_round once_of twice_of (λ k. tower (with_constant k)) (octet_at st) (λ r c. slice_index w (16 * n + (r + 4 * c)))
      ∙ same16 _ _ _ _ _ _ _ _ _ _ _ _ _ _ _ _ _ _ _ _ _ _ _ _ _ _ _ _ _ _ _ _
      (row0 (at 0) (at 5) (at 10) (at 15) (key 0) (is.1 0) (is.1 5) (is.1 10) (is.1 15))
      (row1 (at 5) (at 10) (at 15) (at 0) (key 1) (is.1 5) (is.1 10) (is.1 15) (is.1 0))
      (row2 (at 10) (at 15) (at 0) (at 5) (key 2) (is.1 10) (is.1 15) (is.1 0) (is.1 5))
      (row3 (at 15) (at 0) (at 5) (at 10) (key 3) (is.1 15) (is.1 0) (is.1 5) (is.1 10))
      (row0 (at 4) (at 9) (at 14) (at 3) (key 4) (is.1 4) (is.1 9) (is.1 14) (is.1 3))
      (row1 (at 9) (at 14) (at 3) (at 4) (key 5) (is.1 9) (is.1 14) (is.1 3) (is.1 4))
      (row2 (at 14) (at 3) (at 4) (at 9) (key 6) (is.1 14) (is.1 3) (is.1 4) (is.1 9))
      (row3 (at 3) (at 4) (at 9) (at 14) (key 7) (is.1 3) (is.1 4) (is.1 9) (is.1 14))
      (row0 (at 8) (at 13) (at 2) (at 7) (key 8) (is.1 8) (is.1 13) (is.1 2) (is.1 7))
      (row1 (at 13) (at 2) (at 7) (at 8) (key 9) (is.1 13) (is.1 2) (is.1 7) (is.1 8))
      (row2 (at 2) (at 7) (at 8) (at 13) (key 10) (is.1 2) (is.1 7) (is.1 8) (is.1 13))
      (row3 (at 7) (at 8) (at 13) (at 2) (key 11) (is.1 7) (is.1 8) (is.1 13) (is.1 2))
      (row0 (at 12) (at 1) (at 6) (at 11) (key 12) (is.1 12) (is.1 1) (is.1 6) (is.1 11))
      (row1 (at 1) (at 6) (at 11) (at 12) (key 13) (is.1 1) (is.1 6) (is.1 11) (is.1 12))
      (row2 (at 6) (at 11) (at 12) (at 1) (key 14) (is.1 6) (is.1 11) (is.1 12) (is.1 1))
      (row3 (at 11) (at 12) (at 1) (at 6) (key 15) (is.1 11) (is.1 12) (is.1 1) (is.1 6))

  last_lanes : zip2 bit_xor (picked (map (λ b. looked_up_at LAST_U LAST_V (tower b)) st) rows0) (map with_constant (round_octets w n)) ≡ last_round w n st
  unfolding sub_bytes shift_rows add_round_key
  last_lanes =
      ap (λ (s : List ℕ). zip2 bit_xor (picked (map (λ b. looked_up_at LAST_U LAST_V (tower b)) s) rows0) (map with_constant (round_octets w n))) (sym (state_by_octets st is.0))
      ∙ lanes_of_last (λ b. looked_up_at LAST_U LAST_V (tower b)) with_constant (octet_at st) (λ r c. slice_index w (16 * n + (r + 4 * c)))
      ∙ same16 _ _ _ _ _ _ _ _ _ _ _ _ _ _ _ _ _ _ _ _ _ _ _ _ _ _ _ _ _ _ _ _
      (last_lane (at 0) (key 0) (is.1 0))
      (last_lane (at 5) (key 1) (is.1 5))
      (last_lane (at 10) (key 2) (is.1 10))
      (last_lane (at 15) (key 3) (is.1 15))
      (last_lane (at 4) (key 4) (is.1 4))
      (last_lane (at 9) (key 5) (is.1 9))
      (last_lane (at 14) (key 6) (is.1 14))
      (last_lane (at 3) (key 7) (is.1 3))
      (last_lane (at 8) (key 8) (is.1 8))
      (last_lane (at 13) (key 9) (is.1 13))
      (last_lane (at 2) (key 10) (is.1 2))
      (last_lane (at 7) (key 11) (is.1 7))
      (last_lane (at 12) (key 12) (is.1 12))
      (last_lane (at 1) (key 13) (is.1 1))
      (last_lane (at 6) (key 14) (is.1 6))
      (last_lane (at 11) (key 15) (is.1 11))

  pub round_is : (x k once twice : List ℕ) → x ≡ map tower st → k ≡ map (λ a. tower (with_constant a)) (round_octets w n)
      → once ≡ map (looked_up_at ONCE_U ONCE_V) x → twice ≡ map (looked_up_at TWICE_U TWICE_V) x
      → vector_round once twice k ≡ map tower (round w n st)
  round_is x k once twice held has is_once is_twice =
      ap (λ (v : List ℕ). vector_round v twice k) (is_once ∙ map_of_map (looked_up_at ONCE_U ONCE_V) tower st x held)
      ∙ ap (λ (v : List ℕ). vector_round (map once_of st) v k) (is_twice ∙ map_of_map (looked_up_at TWICE_U TWICE_V) tower st x held)
      ∙ ap (vector_round (map once_of st) (map twice_of st)) has ∙ round_lanes

  pub last_round_is : (x k made : List ℕ) → x ≡ map tower st → k ≡ map with_constant (round_octets w n) → made ≡ map (looked_up_at LAST_U LAST_V) x
      → zip2 bit_xor (picked made rows0) k ≡ last_round w n st
  last_round_is x k made held has is_made =
      ap (λ (v : List ℕ). zip2 bit_xor (picked v rows0) k) (is_made ∙ map_of_map (looked_up_at LAST_U LAST_V) tower st x held)
      ∙ ap (zip2 bit_xor (picked (map (λ b. looked_up_at LAST_U LAST_V (tower b)) st) rows0)) has ∙ last_lanes

lanes_of_sum : (u : ℕ → ℕ) (h k : ℕ → ℕ → ℕ) → zip2 bit_xor (map u (state_of h)) (map u (state_of k))
    ≡ bit_xor (u (h 0 0)) (u (k 0 0))
    ∷ bit_xor (u (h 1 0)) (u (k 1 0))
    ∷ bit_xor (u (h 2 0)) (u (k 2 0))
    ∷ bit_xor (u (h 3 0)) (u (k 3 0))
    ∷ bit_xor (u (h 0 1)) (u (k 0 1))
    ∷ bit_xor (u (h 1 1)) (u (k 1 1))
    ∷ bit_xor (u (h 2 1)) (u (k 2 1))
    ∷ bit_xor (u (h 3 1)) (u (k 3 1))
    ∷ bit_xor (u (h 0 2)) (u (k 0 2))
    ∷ bit_xor (u (h 1 2)) (u (k 1 2))
    ∷ bit_xor (u (h 2 2)) (u (k 2 2))
    ∷ bit_xor (u (h 3 2)) (u (k 3 2))
    ∷ bit_xor (u (h 0 3)) (u (k 0 3))
    ∷ bit_xor (u (h 1 3)) (u (k 1 3))
    ∷ bit_xor (u (h 2 3)) (u (k 2 3))
    ∷ bit_xor (u (h 3 3)) (u (k 3 3)) ∷ []
lanes_of_sum u h k = refl

-- the first key is added
pub start_is : (w st x k : List ℕ) → IsBlock 16 st → x ≡ map tower st → k ≡ map tower (round_octets w 0) → zip2 bit_xor x k ≡ map tower (add_round_key w 0 st)
unfolding add_round_key
start_is w st x k is held has =
    ap (λ (v : List ℕ). zip2 bit_xor v k) (held ∙ ap (map tower) (sym (state_by_octets st is.0)))
    ∙ ap (zip2 bit_xor (map tower (state_of (octet_at st)))) has
    ∙ lanes_of_sum tower (octet_at st) (λ r c. slice_index w (16 * 0 + (r + 4 * c)))
    ∙ same16 _ _ _ _ _ _ _ _ _ _ _ _ _ _ _ _ _ _ _ _ _ _ _ _ _ _ _ _ _ _ _ _
    (sym (tower_xor (slice_index st 0) (slice_index w (16 * 0 + 0))))
    (sym (tower_xor (slice_index st 1) (slice_index w (16 * 0 + 1))))
    (sym (tower_xor (slice_index st 2) (slice_index w (16 * 0 + 2))))
    (sym (tower_xor (slice_index st 3) (slice_index w (16 * 0 + 3))))
    (sym (tower_xor (slice_index st 4) (slice_index w (16 * 0 + 4))))
    (sym (tower_xor (slice_index st 5) (slice_index w (16 * 0 + 5))))
    (sym (tower_xor (slice_index st 6) (slice_index w (16 * 0 + 6))))
    (sym (tower_xor (slice_index st 7) (slice_index w (16 * 0 + 7))))
    (sym (tower_xor (slice_index st 8) (slice_index w (16 * 0 + 8))))
    (sym (tower_xor (slice_index st 9) (slice_index w (16 * 0 + 9))))
    (sym (tower_xor (slice_index st 10) (slice_index w (16 * 0 + 10))))
    (sym (tower_xor (slice_index st 11) (slice_index w (16 * 0 + 11))))
    (sym (tower_xor (slice_index st 12) (slice_index w (16 * 0 + 12))))
    (sym (tower_xor (slice_index st 13) (slice_index w (16 * 0 + 13))))
    (sym (tower_xor (slice_index st 14) (slice_index w (16 * 0 + 14))))
    (sym (tower_xor (slice_index st 15) (slice_index w (16 * 0 + 15))))
