-- The tables that join S1 to S8 and P: what the xor of their entries is.
use Rattle.std.proofs.Common.{◌≡◌, ℕ, zero, suc, ◌+◌, ◌-◌, ◌*◌, ◌<◌, Bool, true, false, ◌==◌, ◌&&◌, List, [], ◌∷◌, ◌++◌, length, take, drop, replicate, slice_index, slice_index_or, bit_xor, refl, sym, ap, ◌∙◌, arith}
use Rattle.std.proofs.lemmas.List.{length-append, length-replicate, length-drop, drop_more, drop-drop}
use Rattle.std.proofs.lemmas.Bool.{and_parts, eqb-true}
use lib.Bits.{xor_zero_r, xor_assoc}
use Rattle.krb_crypto_block.specs.DesTables.{round_table, s_boxes}
use Rattle.krb_crypto_hash.specs.Xor.{xor_lists}
use Rattle.krb_crypto_block.specs.Des.{bits, number_of_bits, row_of, column_of, permuted, substituted_one, substituted}
use Rattle.krb_crypto_block.specs.declared.des.tables.TheConstants.{COMBINED}
use Rattle.krb_crypto_block.proofs.Tables.{all_below, all_below_at}
use Rattle.krb_crypto_hash.proofs.XorLists.{xor_lists-append, xor_lists-zeros, get_or-xor_lists}
use Rattle.krb_crypto_block.proofs.DesBits.{length-bits, bits-xor}
use Rattle.krb_crypto_block.proofs.DesRounds.{substituted-cons}

-- ---- each entry, by one computation

abbrev pub same_list : List ℕ → List ℕ → Bool
same_list [] [] = true
same_list [] (y ∷ ys) = false
same_list (x ∷ xs) [] = false
same_list (x ∷ xs) (y ∷ ys) = (x == y) && same_list xs ys

pub same_list_is : (xs ys : List ℕ) → same_list xs ys ≡ true → xs ≡ ys
same_list_is [] [] h = refl
same_list_is [] (y ∷ ys) h = absurd (grind (arith, h))
same_list_is (x ∷ xs) [] h = absurd (grind (arith, h))
same_list_is (x ∷ xs) (y ∷ ys) h =
    let parts = and_parts (x == y) (same_list xs ys) h in
    rw (eqb-true x y parts.0, same_list_is xs ys parts.1) refl

-- the four bits of box i for six, in their place among 32
abbrev in_place : ℕ → ℕ → List ℕ
in_place i six = replicate (4 * i) 0 ++ (substituted_one (slice_index_or s_boxes i []) (bits 6 six) ++ replicate (28 - 4 * i) 0)

abbrev combined_at : ℕ → ℕ → ℕ
combined_at i six = slice_index (slice_index_or COMBINED i []) six

combined_table : all_below (λ i. all_below (λ six. same_list (bits 32 (combined_at i six)) (permuted round_table (in_place i six))) 64) 8 ≡ true
unfolding bits number_of_bits round_table s_boxes
combined_table = refl

pub combined_entry : (i six : ℕ) → i < 8 → six < 64 → bits 32 (combined_at i six) ≡ permuted round_table (in_place i six)
combined_entry i six hi hs =
    let row : all_below (λ k. same_list (bits 32 (combined_at i k)) (permuted round_table (in_place i k))) 64 ≡ true =
    all_below_at (λ j. all_below (λ k. same_list (bits 32 (combined_at j k)) (permuted round_table (in_place j k))) 64) 8 i combined_table hi in
    same_list_is (bits 32 (combined_at i six)) (permuted round_table (in_place i six)) (all_below_at (λ k. same_list (bits 32 (combined_at i k)) (permuted round_table (in_place i k))) 64 six row hs)

-- ---- a permutation of a xor is the xor of the permutations
pub permuted-xor : (table xs ys : List ℕ) → length xs ≡ length ys → permuted table (xor_lists xs ys) ≡ xor_lists (permuted table xs) (permuted table ys)
permuted-xor [] xs ys e = refl
permuted-xor (t ∷ table) xs ys e = rw (get_or-xor_lists xs ys (t - 1) e, permuted-xor table xs ys e) refl

-- ---- pieces of 32 bits

pub zeros_right : (n : ℕ) (xs : List ℕ) → length xs ≡ n → xor_lists xs (replicate n 0) ≡ xs
zeros_right zero [] e = refl
zeros_right zero (x ∷ xs) e = absurd (omega arith)
zeros_right (suc n) [] e = absurd (omega arith)
zeros_right (suc n) (x ∷ xs) e = rw (xor_zero_r x, zeros_right n xs (omega arith)) refl

pub xor_lists-assoc : (xs ys zs : List ℕ) → length xs ≡ length ys → length ys ≡ length zs → xor_lists (xor_lists xs ys) zs ≡ xor_lists xs (xor_lists ys zs)
xor_lists-assoc [] [] [] e f = refl
xor_lists-assoc [] [] (z ∷ zs) e f = absurd (omega arith)
xor_lists-assoc [] (y ∷ ys) zs e f = absurd (omega arith)
xor_lists-assoc (x ∷ xs) [] zs e f = absurd (omega arith)
xor_lists-assoc (x ∷ xs) (y ∷ ys) [] e f = absurd (omega arith)
xor_lists-assoc (x ∷ xs) (y ∷ ys) (z ∷ zs) e f = rw (xor_assoc x y z, xor_lists-assoc xs ys zs (omega arith) (omega arith)) refl

zeros_more : (a n : ℕ) (xs : List ℕ) → replicate (a + n) 0 ++ xs ≡ replicate a 0 ++ (replicate n 0 ++ xs)
zeros_more zero n xs = ap (λ k. replicate k 0 ++ xs) (omega arith)
zeros_more (suc a) n xs =
    let e : suc a + n ≡ suc (a + n) = omega arith in
    ap (λ k. replicate k 0 ++ xs) e ∙ ap (λ (k : List ℕ). 0 ∷ k) (zeros_more a n xs)

-- n bits q in their place, and then the rest
pub permuted_pieces : (table : List ℕ) (a n b : ℕ) (q rest : List ℕ) → length q ≡ n → length rest ≡ b
    → permuted table (replicate a 0 ++ (q ++ rest)) ≡ xor_lists (permuted table (replicate a 0 ++ (q ++ replicate b 0))) (permuted table (replicate (a + n) 0 ++ rest))
permuted_pieces table a n b q rest lq lr =
    let first : List ℕ = replicate a 0 ++ (q ++ replicate b 0) in
    let second : List ℕ = replicate a 0 ++ (replicate n 0 ++ rest) in
    let la : length (replicate {A = ℕ} a 0) ≡ a = length-replicate a 0 in
    let ln : length (replicate {A = ℕ} n 0) ≡ n = length-replicate n 0 in
    let whole : xor_lists first second ≡ replicate a 0 ++ (q ++ rest) =
    xor_lists-append (replicate a 0) (replicate a 0) (q ++ replicate b 0) (replicate n 0 ++ rest) refl
    ∙ ap (λ (k : List ℕ). k ++ xor_lists (q ++ replicate b 0) (replicate n 0 ++ rest)) (xor_lists-zeros a (replicate a 0) la)
    ∙ ap (λ (k : List ℕ). replicate a 0 ++ k) (xor_lists-append q (replicate n 0) (replicate b 0) rest (lq ∙ sym ln))
    ∙ ap (λ (k : List ℕ). replicate a 0 ++ (k ++ xor_lists (replicate b 0) rest)) (zeros_right n q lq)
    ∙ ap (λ (k : List ℕ). replicate a 0 ++ (q ++ k)) (xor_lists-zeros b rest lr) in
    let lb : length (replicate {A = ℕ} b 0) ≡ b = length-replicate b 0 in
    let long : length first ≡ length second =
    omega (arith, length-append (replicate a 0) (q ++ replicate b 0), length-append (replicate a 0) (replicate n 0 ++ rest), length-append q (replicate b 0), length-append (replicate n 0) rest, la, ln, lb, lq, lr) in
    ap (permuted table) (sym whole) ∙ permuted-xor table first second long
    ∙ ap (λ (k : List ℕ). xor_lists (permuted table first) (permuted table k)) (sym (zeros_more a n rest))

length-substituted : (boxes : List (List (List ℕ))) (xs : List ℕ) → length (substituted boxes xs) ≡ 4 * length boxes
unfolding substituted
length-substituted [] xs = refl
length-substituted (box ∷ boxes) xs =
    length-append (substituted_one box (take 6 xs)) (substituted boxes (drop 6 xs)) ∙ omega (arith, length-bits 4 (slice_index (slice_index_or box (row_of (take 6 xs)) []) (column_of (take 6 xs))), length-substituted boxes (drop 6 xs))

-- ---- the loop over the boxes

-- what the boxes from i on make of x, in its place among 32
abbrev pub left_from : ℕ → List ℕ → List ℕ
left_from i x = replicate (4 * i) 0 ++ substituted (drop i s_boxes) (drop (6 * i) x)

length-permuted : (xs : List ℕ) → length (permuted round_table xs) ≡ 32
unfolding round_table
length-permuted xs = refl

length-s_boxes : length s_boxes ≡ 8
unfolding s_boxes
length-s_boxes = refl

pub concatenated_start : (x : List ℕ) → xor_lists (bits 32 0) (permuted round_table (left_from 0 x)) ≡ permuted round_table (substituted s_boxes x)
unfolding bits
concatenated_start x = xor_lists-zeros 32 (permuted round_table (substituted s_boxes x)) (length-permuted (substituted s_boxes x))

pub concatenated_more : (x : List ℕ) (i value six : ℕ) (target : List ℕ) → i < 8 → six < 64 → take 6 (drop (6 * i) x) ≡ bits 6 six
    → xor_lists (bits 32 value) (permuted round_table (left_from i x)) ≡ target
    → xor_lists (bits 32 (bit_xor value (combined_at i six))) (permuted round_table (left_from (i + 1) x)) ≡ target
concatenated_more x i value six target lt small window held =
    let box : List (List ℕ) = slice_index_or s_boxes i [] in
    let q : List ℕ = substituted_one (slice_index_or s_boxes i []) (bits 6 six) in
    let tail : List ℕ = substituted (drop (i + 1) s_boxes) (drop (6 * (i + 1)) x) in
    let next : 6 * i + 6 ≡ 6 * (i + 1) = omega arith in
    let rest : drop 6 (drop (6 * i) x) ≡ drop (6 * (i + 1)) x = drop-drop 6 (6 * i) x ∙ ap (λ k. drop k x) next in
    let cut : substituted (drop i s_boxes) (drop (6 * i) x) ≡ q ++ tail =
    ap (λ (k : List (List (List ℕ))). substituted k (drop (6 * i) x)) (drop_more s_boxes i [] (omega (arith, length-s_boxes)))
    ∙ substituted-cons (slice_index_or s_boxes i []) (drop (i + 1) s_boxes) (drop (6 * i) x)
    ∙ ap (λ (k : List ℕ). substituted_one (slice_index_or s_boxes i []) k ++ substituted (drop (i + 1) s_boxes) (drop 6 (drop (6 * i) x))) window
    ∙ ap (λ (k : List ℕ). q ++ substituted (drop (i + 1) s_boxes) k) rest in
    let lq : length q ≡ 4 = length-bits 4 (slice_index (slice_index_or (slice_index_or s_boxes i []) (row_of (bits 6 six)) []) (column_of (bits 6 six))) in
    let lt4 : length tail ≡ 28 - 4 * i = omega (arith, length-substituted (drop (i + 1) s_boxes) (drop (6 * (i + 1)) x), length-drop (i + 1) s_boxes, length-s_boxes) in
    let four : 4 * i + 4 ≡ 4 * (i + 1) = omega arith in
    let after : List ℕ = permuted round_table (left_from (i + 1) x) in
    let parted : permuted round_table (left_from i x) ≡ xor_lists (bits 32 (combined_at i six)) after =
    ap (λ (k : List ℕ). permuted round_table (replicate (4 * i) 0 ++ k)) cut ∙ permuted_pieces round_table (4 * i) 4 (28 - 4 * i) q tail lq lt4
    ∙ ap (λ k. xor_lists (permuted round_table (in_place i six)) (permuted round_table (replicate k 0 ++ tail))) four
    ∙ ap (λ (k : List ℕ). xor_lists k after) (sym (combined_entry i six lt small)) in
    ap (λ (k : List ℕ). xor_lists k after) (bits-xor 32 value (combined_at i six))
    ∙ xor_lists-assoc (bits 32 value) (bits 32 (combined_at i six)) after (length-bits 32 value ∙ sym (length-bits 32 (combined_at i six))) (length-bits 32 (combined_at i six) ∙ sym (length-permuted (left_from (i + 1) x)))
    ∙ ap (λ (k : List ℕ). xor_lists (bits 32 value) k) (sym parted) ∙ held

-- two boxes in a row
pub concatenated_two : (x : List ℕ) (i value odd even : ℕ) (target : List ℕ) → i < 4 → odd < 64 → even < 64
    → take 6 (drop (6 * (2 * i)) x) ≡ bits 6 odd → take 6 (drop (6 * (2 * i + 1)) x) ≡ bits 6 even
    → xor_lists (bits 32 value) (permuted round_table (left_from (2 * i) x)) ≡ target
    → xor_lists (bits 32 (bit_xor (bit_xor value (combined_at (2 * i) odd)) (combined_at (2 * i + 1) even))) (permuted round_table (left_from (2 * (i + 1)) x)) ≡ target
concatenated_two x i value odd even target lt small_odd small_even one other held =
    let next : 2 * (i + 1) ≡ 2 * i + 1 + 1 = omega arith in
    let first : xor_lists (bits 32 (bit_xor value (combined_at (2 * i) odd))) (permuted round_table (left_from (2 * i + 1) x)) ≡ target =
    concatenated_more x (2 * i) value odd target (omega arith) small_odd one held in
    ap (λ k. xor_lists (bits 32 (bit_xor (bit_xor value (combined_at (2 * i) odd)) (combined_at (2 * i + 1) even))) (permuted round_table (left_from k x))) next
    ∙ concatenated_more x (2 * i + 1) (bit_xor value (combined_at (2 * i) odd)) even target (omega arith) small_even other first

pub concatenated_end : (x : List ℕ) (i value : ℕ) (target : List ℕ) → i ≡ 8
    → xor_lists (bits 32 value) (permuted round_table (left_from i x)) ≡ target → bits 32 value ≡ target
unfolding substituted s_boxes round_table
concatenated_end x i value target ei held =
    let done : xor_lists (bits 32 value) (permuted round_table (left_from 8 x)) ≡ target = rw ei at held in
    sym (zeros_right 32 (bits 32 value) (length-bits 32 value)) ∙ done
