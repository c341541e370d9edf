-- The groups of six that E makes of a half stand, six in an octet, in the half turned by 3 and the half turned by 31.
use Rattle.std.proofs.Common.{◌≡◌, ℕ, zero, suc, ◌+◌, ◌-◌, ◌*◌, ◌/◌, ◌%◌, ◌^◌, ◌<◌, List, [], ◌∷◌, ◌++◌, length, take, drop, bit_or, bit_xor, refl, sym, ap, ◌∙◌, arith}
use Rattle.krb_crypto_block.specs.DesTables.{expansion_table, kept_table}
use Rattle.krb_crypto_hash.specs.Xor.{xor_lists}
use Rattle.krb_crypto_block.specs.Des.{bits, permuted, turned_left, key_bits}
use Rattle.krb_crypto_block.proofs.DesBits.{length-bits, bits-append, bits-xor}
use Rattle.krb_crypto_block.proofs.DesRounds.{bits_window, turned_is, rotated_is}

take-xor_lists : (n : ℕ) (xs ys : List ℕ) → take n (xor_lists xs ys) ≡ xor_lists (take n xs) (take n ys)
take-xor_lists zero xs ys = refl
take-xor_lists (suc n) [] ys = refl
take-xor_lists (suc n) (x ∷ xs) [] = refl
take-xor_lists (suc n) (x ∷ xs) (y ∷ ys) = ap (λ (k : List ℕ). bit_xor x y ∷ k) (take-xor_lists n xs ys)

drop-xor_lists : (n : ℕ) (xs ys : List ℕ) → length xs ≡ length ys → drop n (xor_lists xs ys) ≡ xor_lists (drop n xs) (drop n ys)
drop-xor_lists zero xs ys e = refl
drop-xor_lists (suc n) [] ys e = refl
drop-xor_lists (suc n) (x ∷ xs) [] e = absurd (omega arith)
drop-xor_lists (suc n) (x ∷ xs) (y ∷ ys) e = drop-xor_lists n xs ys (omega arith)

-- six bits from place a on
abbrev six_from : ℕ → List ℕ → List ℕ
six_from a xs = take 6 (drop a xs)

six-xor : (a : ℕ) (xs ys : List ℕ) → length xs ≡ length ys → six_from a (xor_lists xs ys) ≡ xor_lists (six_from a xs) (six_from a ys)
six-xor a xs ys e = ap (take 6) (drop-xor_lists a xs ys e) ∙ take-xor_lists 6 (drop a xs) (drop a ys)

-- ---- the half, turned twice

abbrev both_turned : ℕ → List ℕ
both_turned right = turned_left 29 (bits 32 right) ++ turned_left 1 (bits 32 right)

expansion_odd : (right i : ℕ) → i < 4 → six_from (12 * i) (permuted expansion_table (bits 32 right)) ≡ six_from (8 * i + 2) (both_turned right)
unfolding bits expansion_table
expansion_odd right zero lt = refl
expansion_odd right (suc zero) lt = refl
expansion_odd right (suc (suc zero)) lt = refl
expansion_odd right (suc (suc (suc zero))) lt = refl
expansion_odd right (suc (suc (suc (suc i)))) lt = absurd (omega arith)

expansion_even : (right i : ℕ) → i < 4 → six_from (12 * i + 6) (permuted expansion_table (bits 32 right)) ≡ six_from (8 * i + 34) (both_turned right)
unfolding bits expansion_table
expansion_even right zero lt = refl
expansion_even right (suc zero) lt = refl
expansion_even right (suc (suc zero)) lt = refl
expansion_even right (suc (suc (suc zero))) lt = refl
expansion_even right (suc (suc (suc (suc i)))) lt = absurd (omega arith)

kept_odd : (key i : ℕ) → i < 4 → six_from (12 * i) (key_bits key) ≡ six_from (8 * i + 2) (bits 64 key)
unfolding bits kept_table
kept_odd key zero lt = refl
kept_odd key (suc zero) lt = refl
kept_odd key (suc (suc zero)) lt = refl
kept_odd key (suc (suc (suc zero))) lt = refl
kept_odd key (suc (suc (suc (suc i)))) lt = absurd (omega arith)

kept_even : (key i : ℕ) → i < 4 → six_from (12 * i + 6) (key_bits key) ≡ six_from (8 * i + 34) (bits 64 key)
unfolding bits kept_table
kept_even key zero lt = refl
kept_even key (suc zero) lt = refl
kept_even key (suc (suc zero)) lt = refl
kept_even key (suc (suc (suc zero))) lt = refl
kept_even key (suc (suc (suc (suc i)))) lt = absurd (omega arith)

-- ---- what a box takes

length-expanded : (xs : List ℕ) → length (permuted expansion_table xs) ≡ 48
unfolding expansion_table
length-expanded xs = refl

length-kept : (xs : List ℕ) → length (permuted kept_table xs) ≡ 48
unfolding kept_table
length-kept xs = refl

abbrev pub mixed_with : ℕ → ℕ → List ℕ
mixed_with right key = xor_lists (permuted expansion_table (bits 32 right)) (key_bits key)

six_mixed : (right key wide m a b : ℕ) → bits 64 wide ≡ both_turned right → a + (6 + b) ≡ 64
    → six_from m (permuted expansion_table (bits 32 right)) ≡ six_from a (both_turned right) → six_from m (key_bits key) ≡ six_from a (bits 64 key)
    → six_from m (mixed_with right key) ≡ bits 6 (bit_xor wide key / 2 ^ b % 64)
six_mixed right key wide m a b ew at er ek =
    six-xor m (permuted expansion_table (bits 32 right)) (key_bits key) (length-expanded (bits 32 right) ∙ sym (length-kept (bits 64 key)))
    ∙ rw (er ∙ ap (six_from a) (sym ew), ek) refl
    ∙ sym (six-xor a (bits 64 wide) (bits 64 key) (length-bits 64 wide ∙ sym (length-bits 64 key)))
    ∙ ap (six_from a) (sym (bits-xor 64 wide key)) ∙ ap (λ k. six_from a (bits k (bit_xor wide key))) (sym at) ∙ bits_window 6 a b (bit_xor wide key)

pub six_odd : (right key wide i : ℕ) → bits 64 wide ≡ both_turned right → i < 4
    → take 6 (drop (6 * (2 * i)) (mixed_with right key)) ≡ bits 6 (bit_xor wide key / 2 ^ (56 - 8 * i) % 64)
six_odd right key wide i ew lt =
    let e : 6 * (2 * i) ≡ 12 * i = omega arith in
    ap (λ k. six_from k (mixed_with right key)) e ∙ six_mixed right key wide (12 * i) (8 * i + 2) (56 - 8 * i) ew (omega arith) (expansion_odd right i lt) (kept_odd key i lt)

pub six_even : (right key wide i : ℕ) → bits 64 wide ≡ both_turned right → i < 4
    → take 6 (drop (6 * (2 * i + 1)) (mixed_with right key)) ≡ bits 6 (bit_xor wide key / 2 ^ (24 - 8 * i) % 64)
six_even right key wide i ew lt =
    let e : 6 * (2 * i + 1) ≡ 12 * i + 6 = omega arith in
    ap (λ k. six_from k (mixed_with right key)) e ∙ six_mixed right key wide (12 * i + 6) (8 * i + 34) (24 - 8 * i) ew (omega arith) (expansion_even right i lt) (kept_even key i lt)

-- what the code computes of the half
pub wide_is : (right a b : ℕ) → right < 2 ^ 32 → a ≡ bit_or (right / 2 ^ 3) (right * 2 ^ 29 % 2 ^ 32) → b ≡ bit_or (right / 2 ^ 31) (right * 2 ^ 1 % 2 ^ 32)
    → bits 64 (a * 2 ^ 32 + b) ≡ both_turned right
wide_is right a b small ea eb =
    let one : a ≡ right % 2 ^ 3 * 2 ^ 29 + right / 2 ^ 3 = ea ∙ rotated_is 32 right 29 3 refl small in
    let other : b ≡ right % 2 ^ 31 * 2 ^ 1 + right / 2 ^ 31 = eb ∙ rotated_is 32 right 1 31 refl small in
    let ta = turned_is 32 right 29 3 refl small in
    let tb = turned_is 32 right 1 31 refl small in
    let fits : b < 2 ^ 32 = rw other tb.1 in
    bits-append 32 32 a b fits ∙ rw (one, other, ta.0, tb.0) refl
