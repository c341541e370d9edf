-- PC-1 as the columns that IP makes, and PC-2 by tables, seven bits of C and D at a time.
use Rattle.std.proofs.Common.{◌≡◌, ℕ, zero, suc, ◌+◌, ◌-◌, ◌*◌, ◌/◌, ◌%◌, ◌^◌, ◌<◌, Bool, true, List, [], ◌∷◌, ◌++◌, length, take, drop, map, replicate, slice_index, slice_index_or, bit_xor, refl, sym, ap, ◌∙◌, arith}
use Rattle.std.proofs.lemmas.List.{length-drop, length-map, drop-drop, drop_all, take_at, drop_at, take-append-drop}
use Rattle.krb_crypto_block.specs.DesTables.{initial_table, first_choice, second_choice, kept_table}
use Rattle.krb_crypto_hash.specs.Xor.{xor_lists}
use Rattle.krb_crypto_block.specs.Des.{bits, bit_of, permuted, key_bits}
use Rattle.krb_crypto_block.specs.declared.des.tables.TheConstants.{CHOSEN_OF_C, CHOSEN_OF_D}
use Rattle.krb_crypto_block.proofs.Tables.{all_below, all_below_at}
use Rattle.krb_crypto_hash.proofs.XorLists.{xor_lists-zeros}
use Rattle.krb_crypto_block.proofs.DesBits.{length-bits, bits-append, bits-xor}
use Rattle.krb_crypto_block.proofs.DesRounds.{bits_window, bits-split}
use Rattle.krb_crypto_block.proofs.DesCombined.{same_list, same_list_is, permuted-xor, permuted_pieces, xor_lists-assoc, zeros_right}

-- ---- PC-1

window : (n a b y : ℕ) (q : List ℕ) → a + (n + b) ≡ 64 → bits 64 y ≡ q → bits n (y / 2 ^ b % 2 ^ n) ≡ take n (drop a q)
window n a b y q at e = sym (bits_window n a b y) ∙ ap (λ k. take n (drop a (bits k y))) at ∙ ap (λ (k : List ℕ). take n (drop a k)) e

bits_trailing : (a b x y : ℕ) (p q : List ℕ) → bits a x ≡ p → bits b y ≡ q → y < 2 ^ b → bits (a + b) (x * 2 ^ b + y) ≡ p ++ q
bits_trailing a b x y p q ex ey lt = bits-append a b x y lt ∙ rw (ex, ey) refl

-- the columns in the order of PC-1
abbrev columns_of : List ℕ → List ℕ
columns_of q =
    ((((((take 8 (drop 32 q) ++ take 8 (drop 0 q)) ++ take 8 (drop 40 q)) ++ take 4 (drop 8 q)) ++ take 8 (drop 56 q)) ++ take 8 (drop 16 q)) ++ take 8 (drop 48 q)) ++ take 4 (drop 12 q)

columns_chosen : (x : List ℕ) → columns_of (permuted initial_table x) ≡ permuted first_choice x
unfolding initial_table first_choice
columns_chosen x = refl

abbrev third_part : ℕ → ℕ
third_part y = (y / 2 ^ 24 % 256 * 256 + y / 2 ^ 56 % 256) * 256 + y / 2 ^ 16 % 256

abbrev sixth_part : ℕ → ℕ
sixth_part y = ((third_part y * 16 + y / 2 ^ 52 % 16) * 256 + y % 256) * 256 + y / 2 ^ 40 % 256

abbrev pub columns_value : ℕ → ℕ
columns_value y = (sixth_part y * 256 + y / 2 ^ 8 % 256) * 16 + y / 2 ^ 48 % 16

third_bits : (y : ℕ) (q : List ℕ) → bits 64 y ≡ q → bits 24 (third_part y) ≡ (take 8 (drop 32 q) ++ take 8 (drop 0 q)) ++ take 8 (drop 40 q)
third_bits y q e =
    let one : bits 8 (y / 2 ^ 24 % 256) ≡ take 8 (drop 32 q) = window 8 32 24 y q refl e in
    let two = bits_trailing 8 8 (y / 2 ^ 24 % 256) (y / 2 ^ 56 % 256) _ _ one (window 8 0 56 y q refl e) (omega arith) in
    bits_trailing 16 8 (y / 2 ^ 24 % 256 * 256 + y / 2 ^ 56 % 256) (y / 2 ^ 16 % 256) _ _ two (window 8 40 16 y q refl e) (omega arith)

sixth_bits : (y : ℕ) (q p : List ℕ) → bits 64 y ≡ q → bits 24 (third_part y) ≡ p → bits 44 (sixth_part y) ≡ ((p ++ take 4 (drop 8 q)) ++ take 8 (drop 56 q)) ++ take 8 (drop 16 q)
sixth_bits y q p e three =
    let last : y % 256 ≡ y / 2 ^ 0 % 256 = omega arith in
    let four = bits_trailing 24 4 (third_part y) (y / 2 ^ 52 % 16) p _ three (window 4 8 52 y q refl e) (omega arith) in
    let five = bits_trailing 28 8 (third_part y * 16 + y / 2 ^ 52 % 16) (y % 256) _ _ four (ap (bits 8) last ∙ window 8 56 0 y q refl e) (omega arith) in
    bits_trailing 36 8 ((third_part y * 16 + y / 2 ^ 52 % 16) * 256 + y % 256) (y / 2 ^ 40 % 256) _ _ five (window 8 16 40 y q refl e) (omega arith)

pub columns_are : (x y : ℕ) → bits 64 y ≡ permuted initial_table (bits 64 x) → bits 56 (columns_value y) ≡ permuted first_choice (bits 64 x)
columns_are x y e =
    let q : List ℕ = permuted initial_table (bits 64 x) in
    let six = sixth_bits y q _ e (third_bits y q e) in
    let seven = bits_trailing 44 8 (sixth_part y) (y / 2 ^ 8 % 256) _ _ six (window 8 48 8 y q refl e) (omega arith) in
    bits_trailing 52 4 (sixth_part y * 256 + y / 2 ^ 8 % 256) (y / 2 ^ 48 % 16) _ _ seven (window 4 12 48 y q refl e) (omega arith) ∙ columns_chosen (bits 64 x)

-- ---- PC-2, each entry by one computation

-- the part of PC-2 that chooses of C, and the one that chooses of D
abbrev pub choice_of_c : List ℕ
choice_of_c = take 24 second_choice

abbrev pub choice_of_d : List ℕ
choice_of_d = map (λ k. k - 28) (drop 24 second_choice)

-- half a round key, as the tables have it
abbrev half_table : List ℕ
half_table = 3 ∷ 4 ∷ 5 ∷ 6 ∷ 7 ∷ 8 ∷ 19 ∷ 20 ∷ 21 ∷ 22 ∷ 23 ∷ 24 ∷ 11 ∷ 12 ∷ 13 ∷ 14 ∷ 15 ∷ 16 ∷ 27 ∷ 28 ∷ 29 ∷ 30 ∷ 31 ∷ 32 ∷ []

abbrev pub half_bits : ℕ → List ℕ
half_bits word = permuted half_table (bits 32 word)

-- seven bits after 7 i others
abbrev in_place : ℕ → ℕ → List ℕ
in_place i part = replicate (7 * i) 0 ++ (bits 7 part ++ replicate (21 - 7 * i) 0)

abbrev entry_of : List (List ℕ) → ℕ → ℕ → ℕ
entry_of tables i part = slice_index (slice_index_or tables i []) part

abbrev all_chosen : List (List ℕ) → List ℕ → Bool
all_chosen tables choice = all_below (λ i. all_below (λ part. same_list (half_bits (entry_of tables i part)) (permuted choice (in_place i part))) 128) 4

pub chosen_of_c : all_chosen CHOSEN_OF_C choice_of_c ≡ true
unfolding bits second_choice
chosen_of_c = refl

pub chosen_of_d : all_chosen CHOSEN_OF_D choice_of_d ≡ true
unfolding bits second_choice
chosen_of_d = refl

chosen_entry : (tables : List (List ℕ)) (choice : List ℕ) (i part : ℕ) → all_chosen tables choice ≡ true → i < 4 → part < 128
    → half_bits (entry_of tables i part) ≡ permuted choice (in_place i part)
chosen_entry tables choice i part test hi hp =
    let row : all_below (λ k. same_list (half_bits (entry_of tables i k)) (permuted choice (in_place i k))) 128 ≡ true =
    all_below_at (λ j. all_below (λ k. same_list (half_bits (entry_of tables j k)) (permuted choice (in_place j k))) 128) 4 i test hi in
    same_list_is (half_bits (entry_of tables i part)) (permuted choice (in_place i part)) (all_below_at (λ k. same_list (half_bits (entry_of tables i k)) (permuted choice (in_place i k))) 128 part row hp)

-- ---- the loop over the parts

half_bits-xor : (a b : ℕ) → half_bits (bit_xor a b) ≡ xor_lists (half_bits a) (half_bits b)
half_bits-xor a b = ap (permuted half_table) (bits-xor 32 a b) ∙ permuted-xor half_table (bits 32 a) (bits 32 b) (length-bits 32 a ∙ sym (length-bits 32 b))

length-chosen : (choice xs : List ℕ) → length choice ≡ 24 → length (permuted choice xs) ≡ 24
length-chosen choice xs e = length-map choice (bit_of xs) ∙ e

-- the bits of x from part i on, in their place
abbrev pub parts_from : ℕ → List ℕ → List ℕ
parts_from i x = replicate (7 * i) 0 ++ drop (7 * i) x

pub choice_start : (choice x : List ℕ) → length choice ≡ 24 → xor_lists (half_bits 0) (permuted choice (parts_from 0 x)) ≡ permuted choice x
unfolding bits
choice_start choice x e = xor_lists-zeros 24 (permuted choice x) (length-chosen choice x e)

pub choice_more : (tables : List (List ℕ)) (choice : List ℕ) (half i word : ℕ) (target : List ℕ) → all_chosen tables choice ≡ true → length choice ≡ 24 → i < 4
    → xor_lists (half_bits word) (permuted choice (parts_from i (bits 28 half))) ≡ target
    → xor_lists (half_bits (bit_xor word (entry_of tables i (half / 2 ^ (21 - 7 * i) % 128)))) (permuted choice (parts_from (i + 1) (bits 28 half))) ≡ target
choice_more tables choice half i word target test few lt held =
    let x : List ℕ = bits 28 half in
    let part : ℕ = half / 2 ^ (21 - 7 * i) % 128 in
    let entry : ℕ = entry_of tables i part in
    let at : 7 * i + (7 + (21 - 7 * i)) ≡ 28 = omega arith in
    let seven : take 7 (drop (7 * i) (bits 28 half)) ≡ bits 7 part = ap (λ k. take 7 (drop (7 * i) (bits k half))) (sym at) ∙ bits_window 7 (7 * i) (21 - 7 * i) half in
    let next : 7 * i + 7 ≡ 7 * (i + 1) = omega arith in
    let trailing : drop 7 (drop (7 * i) (bits 28 half)) ≡ drop (7 * (i + 1)) (bits 28 half) = drop-drop 7 (7 * i) x ∙ ap (λ k. drop k x) next in
    let cut : drop (7 * i) (bits 28 half) ≡ bits 7 part ++ drop (7 * (i + 1)) (bits 28 half) =
    sym (take-append-drop 7 (drop (7 * i) x)) ∙ ap (λ (k : List ℕ). k ++ drop 7 (drop (7 * i) x)) seven ∙ ap (λ (k : List ℕ). bits 7 part ++ k) trailing in
    let long : length (drop (7 * (i + 1)) (bits 28 half)) ≡ 21 - 7 * i = length-drop (7 * (i + 1)) x ∙ omega (arith, length-bits 28 half) in
    let small : part < 128 = omega arith in
    let after : List ℕ = permuted choice (parts_from (i + 1) x) in
    let parted : permuted choice (parts_from i (bits 28 half)) ≡ xor_lists (half_bits entry) after =
    ap (λ (k : List ℕ). permuted choice (replicate (7 * i) 0 ++ k)) cut ∙ permuted_pieces choice (7 * i) 7 (21 - 7 * i) (bits 7 part) (drop (7 * (i + 1)) x) (length-bits 7 part) long
    ∙ ap (λ k. xor_lists (permuted choice (in_place i part)) (permuted choice (replicate k 0 ++ drop (7 * (i + 1)) x))) next
    ∙ ap (λ (k : List ℕ). xor_lists k after) (sym (chosen_entry tables choice i part test lt small)) in
    ap (λ (k : List ℕ). xor_lists k after) (half_bits-xor word entry)
    ∙ xor_lists-assoc (half_bits word) (half_bits entry) after refl (sym (length-chosen choice (parts_from (i + 1) x) few))
    ∙ ap (λ (k : List ℕ). xor_lists (half_bits word) k) (sym parted) ∙ held

zero_at : (n i : ℕ) → slice_index (replicate n 0) i ≡ 0
zero_at zero i = refl
zero_at (suc n) zero = refl
zero_at (suc n) (suc i) = zero_at n i

permuted_zeros : (choice : List ℕ) → permuted choice (replicate 28 0) ≡ replicate (length choice) 0
permuted_zeros [] = refl
permuted_zeros (t ∷ choice) =
    ap (λ (k : List ℕ). bit_of (replicate 28 0) t ∷ k) (permuted_zeros choice) ∙ ap (λ k. k ∷ replicate (length choice) 0) (zero_at 28 (t - 1))

pub choice_end : (choice x : List ℕ) (i word : ℕ) (target : List ℕ) → length choice ≡ 24 → length x ≡ 28 → i ≡ 4
    → xor_lists (half_bits word) (permuted choice (parts_from i x)) ≡ target → half_bits word ≡ target
choice_end choice x i word target few long ei held =
    let none : drop (7 * 4) x ≡ [] = drop_all 28 x (omega arith) in
    let done : xor_lists (half_bits word) (permuted choice (parts_from 4 x)) ≡ target = rw ei at held in
    let zeros : permuted choice (parts_from 4 x) ≡ replicate 24 0 = ap (λ (k : List ℕ). permuted choice (replicate 28 0 ++ k)) none ∙ permuted_zeros choice ∙ ap (λ k. replicate k 0) few in
    sym (zeros_right 24 (half_bits word) refl) ∙ ap (λ (k : List ℕ). xor_lists (half_bits word) k) (sym zeros) ∙ done

-- ---- the two halves of a round key

halves_chosen : (c d : ℕ) → permuted second_choice (bits 28 c ++ bits 28 d) ≡ permuted choice_of_c (bits 28 c) ++ permuted choice_of_d (bits 28 d)
unfolding bits second_choice
halves_chosen c d = refl

-- the first octets of both, and then the last
abbrev interleaved : List ℕ → List ℕ → List ℕ
interleaved xs ys = (take 16 xs ++ take 16 ys) ++ (drop 16 xs ++ drop 16 ys)

halves_kept : (a b : ℕ) → permuted kept_table (interleaved (bits 32 a) (bits 32 b)) ≡ half_bits a ++ half_bits b
unfolding bits kept_table
halves_kept a b = refl

bits-interleaved : (a b : ℕ) → a < 2 ^ 32 → b < 2 ^ 32
    → bits 64 ((a / 2 ^ 16 * 2 ^ 16 + b / 2 ^ 16) * 2 ^ 32 + (a % 2 ^ 16 * 2 ^ 16 + b % 2 ^ 16)) ≡ interleaved (bits 32 a) (bits 32 b)
bits-interleaved a b ha hb =
    let cut_a : bits 32 a ≡ bits 16 (a / 2 ^ 16) ++ bits 16 (a % 2 ^ 16) = bits-split 16 16 a in
    let cut_b : bits 32 b ≡ bits 16 (b / 2 ^ 16) ++ bits 16 (b % 2 ^ 16) = bits-split 16 16 b in
    let ta : take 16 (bits 32 a) ≡ bits 16 (a / 2 ^ 16) = ap (take 16) cut_a ∙ take_at (bits 16 (a / 2 ^ 16)) (bits 16 (a % 2 ^ 16)) 16 (length-bits 16 (a / 2 ^ 16)) in
    let tb : take 16 (bits 32 b) ≡ bits 16 (b / 2 ^ 16) = ap (take 16) cut_b ∙ take_at (bits 16 (b / 2 ^ 16)) (bits 16 (b % 2 ^ 16)) 16 (length-bits 16 (b / 2 ^ 16)) in
    let da : drop 16 (bits 32 a) ≡ bits 16 (a % 2 ^ 16) = ap (drop 16) cut_a ∙ drop_at (bits 16 (a / 2 ^ 16)) (bits 16 (a % 2 ^ 16)) 16 (length-bits 16 (a / 2 ^ 16)) in
    let db : drop 16 (bits 32 b) ≡ bits 16 (b % 2 ^ 16) = ap (drop 16) cut_b ∙ drop_at (bits 16 (b / 2 ^ 16)) (bits 16 (b % 2 ^ 16)) 16 (length-bits 16 (b / 2 ^ 16)) in
    let low : bits 32 (a % 2 ^ 16 * 2 ^ 16 + b % 2 ^ 16) ≡ drop 16 (bits 32 a) ++ drop 16 (bits 32 b) = bits_trailing 16 16 (a % 2 ^ 16) (b % 2 ^ 16) _ _ (sym da) (sym db) (omega arith) in
    let high : bits 32 (a / 2 ^ 16 * 2 ^ 16 + b / 2 ^ 16) ≡ take 16 (bits 32 a) ++ take 16 (bits 32 b) = bits_trailing 16 16 (a / 2 ^ 16) (b / 2 ^ 16) _ _ (sym ta) (sym tb) (omega arith) in
    bits_trailing 32 32 (a / 2 ^ 16 * 2 ^ 16 + b / 2 ^ 16) (a % 2 ^ 16 * 2 ^ 16 + b % 2 ^ 16) _ _ high low (omega arith)

pub key_chosen : (c d a b : ℕ) → a < 2 ^ 32 → b < 2 ^ 32 → half_bits a ≡ permuted choice_of_c (bits 28 c) → half_bits b ≡ permuted choice_of_d (bits 28 d)
    → key_bits ((a / 2 ^ 16 * 2 ^ 16 + b / 2 ^ 16) * 2 ^ 32 + (a % 2 ^ 16 * 2 ^ 16 + b % 2 ^ 16)) ≡ permuted second_choice (bits 28 c ++ bits 28 d)
key_chosen c d a b ha hb ea eb =
    ap (permuted kept_table) (bits-interleaved a b ha hb) ∙ halves_kept a b
    ∙ ap (λ (k : List ℕ). k ++ half_bits b) ea ∙ ap (λ (k : List ℕ). permuted choice_of_c (bits 28 c) ++ k) eb ∙ sym (halves_chosen c d)
