-- A round key from those before it, lane by lane.
use Rattle.std.proofs.Common.{◌≡◌, ℕ, suc, ◌+◌, ◌-◌, ◌*◌, ◌/◌, ◌%◌, ◌<◌, ◌≤◌, ◌==◌, true, false, bit_xor, List, [], ◌∷◌, ◌++◌, map, length, take, drop, slice_index, replicate, refl, sym, ap, ◌∙◌, arith, inl, inr, length-take}
use Rattle.std.proofs.lemmas.Bool.Decides.{nat_tests}
use Rattle.std.proofs.lemmas.List.{get_or-take, get_or-drop, length-drop}
use Rattle.std.proofs.lemmas.Nat.{xor_comm}
use Rattle.std.proofs.lemmas.Simd.{length-chunk, get_or-chunk}
use lib.Bits.{xor_assoc, xor_zero_r}
use lib.Lanes.{zip2, pick_l, chunk}
use Rattle.krb_crypto_block.specs.Modes.{IsOctets, IsBlock}
use Rattle.krb_crypto_block.specs.Polynomial.{times}
use Rattle.krb_crypto_block.specs.SBox.{s_box}
use Rattle.krb_crypto_block.specs.Aes.{octet_at, column_of, word_at, add_words, sub_word, rot_word, power_of_x, key_term, key_expansion, IsKeySize}
use Rattle.krb_crypto_block.specs.AesWords.{key_column}
use Rattle.krb_crypto_block.specs.AesLanes.{tower, round_octets, looked_up_at}
use Rattle.krb_crypto_block.specs.AesNextKey.{constant_word, in_each_column, next_octets}
use Rattle.krb_crypto_block.specs.declared.aes.tables.TheConstants.{LAST_U, LAST_V, ROUND_CONSTANTS}
use Rattle.krb_crypto_block.proofs.Tables.{same_below, same_below_at}
use Rattle.krb_crypto_block.proofs.AesStates.{state_by_octets, state_same}
use Rattle.krb_crypto_block.proofs.AesTower.{xor_left_comm}
use Rattle.krb_crypto_block.proofs.AesRoundLanes.{picked, same16, last_lane}
use Rattle.krb_crypto_block.proofs.AesWordKeys.{column_word, own_word, later_word}

-- ---- a round key among octets

pub own_octets : (key : List ℕ) (n : ℕ) → 16 * n + 16 ≤ length key → chunk 0 16 (take (16 * n + 16 - 16 * n) (drop (16 * n) key)) ≡ round_octets key n
own_octets key n fits =
    let size : 16 * n + 16 - 16 * n ≡ 16 = omega arith in
    let v : List ℕ = chunk 0 16 (take 16 (drop (16 * n) key)) in
    let rest : 16 ≤ length (take 16 (drop (16 * n) key)) = omega (arith, length-take 16 (drop (16 * n) key), length-drop (16 * n) key) in
    let at : (i : ℕ) → i < 16 → slice_index v i ≡ slice_index key (16 * n + i) =
    λ i h.
    let same : 0 + i ≡ i = omega arith in
    get_or-chunk 0 16 (take 16 (drop (16 * n) key)) i 0 h ∙ ap (slice_index (take 16 (drop (16 * n) key))) same ∙ get_or-take 16 (drop (16 * n) key) i 0 h ∙ get_or-drop (16 * n) key i 0 in
    rw size
    (sym (state_by_octets v (length-chunk 0 16 (take 16 (drop (16 * n) key)) rest))
    ∙ state_same (octet_at v) (λ r c. slice_index key (16 * n + (r + 4 * c))) (λ r c hr hc. at (r + 4 * c) (omega arith)))

-- ---- the words that are added

abbrev pub last_places : List ℕ
last_places = 12 ∷ 13 ∷ 14 ∷ 15 ∷ 12 ∷ 13 ∷ 14 ∷ 15 ∷ 12 ∷ 13 ∷ 14 ∷ 15 ∷ 12 ∷ 13 ∷ 14 ∷ 15 ∷ []

abbrev pub rotated_places : List ℕ
rotated_places = 13 ∷ 14 ∷ 15 ∷ 12 ∷ 13 ∷ 14 ∷ 15 ∷ 12 ∷ 13 ∷ 14 ∷ 15 ∷ 12 ∷ 13 ∷ 14 ∷ 15 ∷ 12 ∷ []

abbrev pub looked_up_last : ℕ → ℕ
looked_up_last = looked_up_at LAST_U LAST_V

abbrev substituted_of : ℕ → ℕ
substituted_of a = looked_up_last (tower a)

same_words : (t u : List ℕ) → slice_index t 0 ≡ slice_index u 0 → slice_index t 1 ≡ slice_index u 1 → slice_index t 2 ≡ slice_index u 2 → slice_index t 3 ≡ slice_index u 3
    → in_each_column t ≡ in_each_column u
same_words t u a b c d = same16 _ _ _ _ _ _ _ _ _ _ _ _ _ _ _ _ _ _ _ _ _ _ _ _ _ _ _ _ _ _ _ _ a b c d a b c d a b c d a b c d

constants_table : same_below (slice_index ROUND_CONSTANTS) power_of_x 10 ≡ true
unfolding times power_of_x
constants_table = refl

pub constants_entry : (n : ℕ) → n < 10 → slice_index ROUND_CONSTANTS n ≡ power_of_x n
constants_entry n h = same_below_at (slice_index ROUND_CONSTANTS) power_of_x 10 n constants_table h

substituted_octet : (a : ℕ) → a < 256 → bit_xor (substituted_of a) 0x63 ≡ s_box a
substituted_octet a h = last_lane a 0 h ∙ xor_zero_r (s_box a)

module _ (st : List ℕ) (is : IsBlock 16 st) where
  pub substituted_word_is : zip2 bit_xor (map looked_up_last (picked (map tower st) last_places)) (replicate 16 0x63) ≡ in_each_column (sub_word (column_of st 3))
  substituted_word_is =
      ap (λ (s : List ℕ). zip2 bit_xor (map looked_up_last (picked (map tower s) last_places)) (replicate 16 0x63)) (sym (state_by_octets st is.0))
      ∙ same_words
      (bit_xor (substituted_of (slice_index st 12)) 0x63 ∷ bit_xor (substituted_of (slice_index st 13)) 0x63 ∷ bit_xor (substituted_of (slice_index st 14)) 0x63 ∷ bit_xor (substituted_of (slice_index st 15)) 0x63 ∷ [])
      (sub_word (column_of st 3))
      (substituted_octet _ (is.1 12)) (substituted_octet _ (is.1 13)) (substituted_octet _ (is.1 14)) (substituted_octet _ (is.1 15))

  pub rotated_word_is : (p n : ℕ) → p ≡ power_of_x n
      → zip2 bit_xor (zip2 bit_xor (map looked_up_last (picked (map tower st) rotated_places)) (replicate 16 0x63)) (in_each_column (p ∷ 0 ∷ 0 ∷ 0 ∷ []))
      ≡ in_each_column (add_words (sub_word (rot_word (column_of st 3))) (constant_word n))
  rotated_word_is p n e =
      let sum : ℕ → ℕ → ℕ = λ a k. bit_xor (bit_xor (substituted_of (slice_index st a)) 0x63) k in
      let lane : (a k : ℕ) → sum a k ≡ bit_xor (s_box (slice_index st a)) k = λ a k. ap (λ (x : ℕ). bit_xor x k) (substituted_octet (slice_index st a) (is.1 a)) in
      ap (λ (s : List ℕ). zip2 bit_xor (zip2 bit_xor (map looked_up_last (picked (map tower s) rotated_places)) (replicate 16 0x63)) (in_each_column (p ∷ 0 ∷ 0 ∷ 0 ∷ []))) (sym (state_by_octets st is.0))
      ∙ same_words (sum 13 p ∷ sum 14 0 ∷ sum 15 0 ∷ sum 12 0 ∷ []) (add_words (sub_word (rot_word (column_of st 3))) (constant_word n))
      (lane 13 p ∙ ap (bit_xor (s_box (slice_index st 13))) e) (lane 14 0) (lane 15 0) (lane 12 0)

-- ---- the sums

abbrev pub one_later : List ℕ
one_later = 0 ∷ 1 ∷ 2 ∷ 3 ∷ 16 ∷ 17 ∷ 18 ∷ 19 ∷ 20 ∷ 21 ∷ 22 ∷ 23 ∷ 24 ∷ 25 ∷ 26 ∷ 27 ∷ []

abbrev pub two_later : List ℕ
two_later = 0 ∷ 1 ∷ 2 ∷ 3 ∷ 4 ∷ 5 ∷ 6 ∷ 7 ∷ 16 ∷ 17 ∷ 18 ∷ 19 ∷ 20 ∷ 21 ∷ 22 ∷ 23 ∷ []

-- the lanes of a vector at these positions, counted on from 16; 0 at those below
abbrev pub moved : List ℕ → List ℕ → List ℕ
moved v q = pick_l 0 (replicate 16 0 ++ v) q

abbrev pub vector_sums : List ℕ → List ℕ → List ℕ
vector_sums key term =
    let pairs = zip2 bit_xor key (moved key one_later) in
    zip2 bit_xor (zip2 bit_xor pairs (moved pairs two_later)) term

sum0 : (a t : ℕ) → bit_xor (bit_xor (bit_xor a 0) 0) t ≡ bit_xor a t
sum0 a t = ap (λ (x : ℕ). bit_xor x t) (xor_zero_r (bit_xor a 0) ∙ xor_zero_r a)

sum1 : (a b t : ℕ) → bit_xor (bit_xor (bit_xor b a) 0) t ≡ bit_xor b (bit_xor a t)
sum1 a b t = ap (λ (x : ℕ). bit_xor x t) (xor_zero_r (bit_xor b a)) ∙ xor_assoc b a t

sum2 : (a b c t : ℕ) → bit_xor (bit_xor (bit_xor c b) (bit_xor a 0)) t ≡ bit_xor c (bit_xor b (bit_xor a t))
sum2 a b c t = rw (xor_zero_r a) (simp (xor_assoc, xor_comm, xor_left_comm) refl)

sum3 : (a b c d t : ℕ) → bit_xor (bit_xor (bit_xor d c) (bit_xor b a)) t ≡ bit_xor d (bit_xor c (bit_xor b (bit_xor a t)))
sum3 a b c d t = simp (xor_assoc, xor_comm, xor_left_comm) refl

pub sums_are : (st t : List ℕ) → IsBlock 16 st → vector_sums st (in_each_column t) ≡ next_octets st t
sums_are st t is =
    let at = slice_index st in
    let w = slice_index t in
    ap (λ (s : List ℕ). vector_sums s (in_each_column t)) (sym (state_by_octets st is.0))
    ∙ same16 _ _ _ _ _ _ _ _ _ _ _ _ _ _ _ _ _ _ _ _ _ _ _ _ _ _ _ _ _ _ _ _
    (sum0 (at 0) (w 0)) (sum0 (at 1) (w 1)) (sum0 (at 2) (w 2)) (sum0 (at 3) (w 3))
    (sum1 (at 0) (at 4) (w 0)) (sum1 (at 1) (at 5) (w 1)) (sum1 (at 2) (at 6) (w 2)) (sum1 (at 3) (at 7) (w 3))
    (sum2 (at 0) (at 4) (at 8) (w 0)) (sum2 (at 1) (at 5) (at 9) (w 1)) (sum2 (at 2) (at 6) (at 10) (w 2)) (sum2 (at 3) (at 7) (at 11) (w 3))
    (sum3 (at 0) (at 4) (at 8) (at 12) (w 0)) (sum3 (at 1) (at 5) (at 9) (at 13) (w 1)) (sum3 (at 2) (at 6) (at 10) (at 14) (w 2)) (sum3 (at 3) (at 7) (at 11) (at 15) (w 3))

-- ---- round keys

-- the columns of a round key, and what is added to the first
state_of_columns : (w : List ℕ) (n m : ℕ) (t : List ℕ)
    → key_column w n 0 ≡ add_words (key_column w m 0) t
    → ((c : ℕ) → c < 3 → key_column w n (suc c) ≡ add_words (key_column w m (suc c)) (key_column w n c))
    → round_octets w n ≡ next_octets (round_octets w m) t
state_of_columns w n m t first other =
    let lane : (c r : ℕ) → c < 3 → slice_index (key_column w n (suc c)) r ≡ slice_index (add_words (key_column w m (suc c)) (key_column w n c)) r =
    λ c r h. ap (λ (u : List ℕ). slice_index u r) (other c h) in
    let a0 = ap (λ (u : List ℕ). slice_index u 0) first in
    let a1 = ap (λ (u : List ℕ). slice_index u 1) first in
    let a2 = ap (λ (u : List ℕ). slice_index u 2) first in
    let a3 = ap (λ (u : List ℕ). slice_index u 3) first in
    let k = λ (i : ℕ). slice_index w (16 * m + i) in
    let b0 = lane 0 0 (omega arith) ∙ ap (bit_xor (k 4)) a0 in
    let b1 = lane 0 1 (omega arith) ∙ ap (bit_xor (k 5)) a1 in
    let b2 = lane 0 2 (omega arith) ∙ ap (bit_xor (k 6)) a2 in
    let b3 = lane 0 3 (omega arith) ∙ ap (bit_xor (k 7)) a3 in
    let c0 = lane 1 0 (omega arith) ∙ ap (bit_xor (k 8)) b0 in
    let c1 = lane 1 1 (omega arith) ∙ ap (bit_xor (k 9)) b1 in
    let c2 = lane 1 2 (omega arith) ∙ ap (bit_xor (k 10)) b2 in
    let c3 = lane 1 3 (omega arith) ∙ ap (bit_xor (k 11)) b3 in
    let d0 = lane 2 0 (omega arith) ∙ ap (bit_xor (k 12)) c0 in
    let d1 = lane 2 1 (omega arith) ∙ ap (bit_xor (k 13)) c1 in
    let d2 = lane 2 2 (omega arith) ∙ ap (bit_xor (k 14)) c2 in
    let d3 = lane 2 3 (omega arith) ∙ ap (bit_xor (k 15)) c3 in
    same16 _ _ _ _ _ _ _ _ _ _ _ _ _ _ _ _ _ _ _ _ _ _ _ _ _ _ _ _ _ _ _ _ a0 a1 a2 a3 b0 b1 b2 b3 c0 c1 c2 c3 d0 d1 d2 d3

-- the words after the first of a round key add the word before them
pub same_term : (nk n c : ℕ) (t : List ℕ) → IsKeySize nk → c < 3 → key_term nk (4 * n + suc c) t ≡ t
unfolding key_term
same_term nk n c t (inl four) h =
    let later : ((4 * n + suc c) % 4 == 0) ≡ false = grind (arith, nat_tests) in
    rw (four, later) refl
same_term nk n c t (inr eight) h =
    let later : ((4 * n + suc c) % 8 == 0) ≡ false = grind (arith, nat_tests) in
    let other : ((4 * n + suc c) % 8 == 4) ≡ false = grind (arith, nat_tests) in
    rw (eight, later, other) refl

-- the first word's term
pub term_four : (n : ℕ) (t : List ℕ) → key_term 4 (4 * n) t ≡ add_words (sub_word (rot_word t)) (constant_word (n - 1))
unfolding key_term
term_four n t =
    let first : (4 * n % 4 == 0) ≡ true = grind (arith, nat_tests) in
    let place : 4 * n / 4 ≡ n = omega arith in
    rw (first, place) refl

pub term_even : (n : ℕ) (t : List ℕ) → n % 2 ≡ 0 → key_term 8 (4 * n) t ≡ add_words (sub_word (rot_word t)) (constant_word (n / 2 - 1))
unfolding key_term
term_even n t even =
    let first : (4 * n % 8 == 0) ≡ true = grind (arith, nat_tests) in
    let place : 4 * n / 8 ≡ n / 2 = omega arith in
    rw (first, place) refl

pub term_odd : (n : ℕ) (t : List ℕ) → n % 2 ≡ 1 → key_term 8 (4 * n) t ≡ sub_word t
unfolding key_term
term_odd n t odd =
    let later : (4 * n % 8 == 0) ≡ false = grind (arith, nat_tests) in
    let middle : (4 * n % 8 == 4) ≡ true = grind (arith, nat_tests) in
    rw (later, middle) refl

module _ (nk : ℕ) (key : List ℕ) (size : IsKeySize nk) (long : length key ≡ 4 * nk) (octets : IsOctets key) where
  -- round key n, m being the one that is nk words before it, and t what is added to its first word
  pub next_is : (n m : ℕ) (t : List ℕ) → 4 * n ≡ 4 * m + nk → n ≤ nk + 6 → key_term nk (4 * n) (key_column (key_expansion key) (n - 1) 3) ≡ t
      → round_octets (key_expansion key) n ≡ next_octets (round_octets (key_expansion key) m) t
  next_is n m t apart within term =
      let w = key_expansion key in
      let some : 4 ≤ nk = elim size [ inl four ↦ omega arith | inr eight ↦ omega arith ] in
      let from : (c : ℕ) → 4 * n + c - nk ≡ 4 * m + c = λ c. omega arith in
      let before : 4 * n + 0 - 1 ≡ 4 * (n - 1) + 3 = omega arith in
      let start : 4 * n + 0 ≡ 4 * n = omega arith in
      state_of_columns w n m t
      (sym (column_word w n 0) ∙ later_word nk key size long octets (4 * n + 0) (omega arith) (omega arith)
      ∙ ap (λ (i : ℕ). add_words (word_at w i) (key_term nk (4 * n + 0) (word_at w (4 * n + 0 - 1)))) (from 0)
      ∙ ap (λ (u : List ℕ). add_words u (key_term nk (4 * n + 0) (word_at w (4 * n + 0 - 1)))) (column_word w m 0)
      ∙ ap (λ (i : ℕ). add_words (key_column w m 0) (key_term nk (4 * n + 0) (word_at w i))) before
      ∙ ap (λ (u : List ℕ). add_words (key_column w m 0) (key_term nk (4 * n + 0) u)) (column_word w (n - 1) 3)
      ∙ ap (λ (i : ℕ). add_words (key_column w m 0) (key_term nk i (key_column w (n - 1) 3))) start
      ∙ ap (add_words (key_column w m 0)) term)
      (λ c h.
      let last : 4 * n + suc c - 1 ≡ 4 * n + c = omega arith in
      sym (column_word w n (suc c)) ∙ later_word nk key size long octets (4 * n + suc c) (omega arith) (omega arith)
      ∙ ap (λ (u : List ℕ). add_words (word_at w (4 * n + suc c - nk)) u) (same_term nk n c (word_at w (4 * n + suc c - 1)) size h)
      ∙ ap (λ (i : ℕ). add_words (word_at w i) (word_at w (4 * n + suc c - 1))) (from (suc c))
      ∙ ap (λ (u : List ℕ). add_words u (word_at w (4 * n + suc c - 1))) (column_word w m (suc c))
      ∙ ap (λ (i : ℕ). add_words (key_column w m (suc c)) (word_at w i)) last
      ∙ ap (add_words (key_column w m (suc c))) (column_word w n c))

  -- the round keys among the octets of the key itself
  pub own_is : (n : ℕ) → 4 * n + 4 ≤ nk → round_octets key n ≡ round_octets (key_expansion key) n
  own_is n fits =
      let w = key_expansion key in
      let column : (c : ℕ) → c < 4 → key_column key n c ≡ key_column w n c =
      λ c h. sym (column_word key n c) ∙ own_word nk key size long octets (4 * n + c) (omega arith) ∙ column_word w n c in
      let lane : (c r : ℕ) → c < 4 → slice_index (key_column key n c) r ≡ slice_index (key_column w n c) r =
      λ c r h. ap (λ (u : List ℕ). slice_index u r) (column c h) in
      same16 _ _ _ _ _ _ _ _ _ _ _ _ _ _ _ _ _ _ _ _ _ _ _ _ _ _ _ _ _ _ _ _
      (lane 0 0 (omega arith)) (lane 0 1 (omega arith)) (lane 0 2 (omega arith)) (lane 0 3 (omega arith))
      (lane 1 0 (omega arith)) (lane 1 1 (omega arith)) (lane 1 2 (omega arith)) (lane 1 3 (omega arith))
      (lane 2 0 (omega arith)) (lane 2 1 (omega arith)) (lane 2 2 (omega arith)) (lane 2 3 (omega arith))
      (lane 3 0 (omega arith)) (lane 3 1 (omega arith)) (lane 3 2 (omega arith)) (lane 3 3 (omega arith))
