-- The code's numbers against the lists of bits.
use Rattle.std.proofs.Common.{◌≡◌, ℕ, suc, ◌+◌, ◌-◌, ◌*◌, ◌/◌, ◌%◌, ◌^◌, ◌<◌, ◌≤◌, List, [], ◌∷◌, ◌++◌, length, take, drop, map, reverse, get_or, set, slice_index, slice_index_or, nat_le, true, bit_or, bit_xor, refl, sym, ap, ◌∙◌, arith}
use Rattle.std.proofs.lemmas.List.{take_at, drop_at, drop_more, drop_all, append_assoc, append-nil, take_more_set, take_all, map_push, get_or-map, get_or-reverse, length-map}
use Rattle.std.proofs.lemmas.Nat.{shr_below, field_of, pow_pos, shl-shr, mod_low, mod-pow-add, or_comm, or_shifted}
use Rattle.std.proofs.Math.Nat.{div-add-mod', mod-lt, add-zero}
use Rattle.std.proofs.Math.Arith.{digits_lt}
use lib.Pow.{pow-add}
use Rattle.std.specs.List.{list_all}
use Rattle.std.proofs.lemmas.List.Sums.{AllPass-from_list_all}
use Rattle.std.proofs.lemmas.Bool.Decides.{nat_tests}
use Rattle.krb_crypto_block.specs.DesTables.{second_choice}
use Rattle.krb_crypto_hash.specs.Xor.{xor_lists}
use Rattle.krb_crypto_block.specs.Des.{bits, permuted, substituted_one, substituted, round_value, rounds, turned_left, keys_from, key_bits}
use Rattle.krb_crypto_block.proofs.DesBits.{length-bits, bits-append, bits-xor}

pub bits-split : (a b x : ℕ) → bits (a + b) x ≡ bits a (x / 2 ^ b) ++ bits b (x % 2 ^ b)
bits-split a b x =
    let low : x % 2 ^ b < 2 ^ b = mod-lt x (pow_pos b) in
    ap (bits (a + b)) (sym (div-add-mod' x (2 ^ b))) ∙ bits-append a b (x / 2 ^ b) (x % 2 ^ b) low

-- ---- the boxes
-- n bits of x
pub bits_window : (n a b x : ℕ) → take n (drop a (bits (a + (n + b)) x)) ≡ bits n (x / 2 ^ b % 2 ^ n)
bits_window n a b x =
    let cut : drop a (bits (a + (n + b)) x) ≡ bits (n + b) (x % 2 ^ (n + b)) =
    ap (drop a) (bits-split a (n + b) x) ∙ drop_at (bits a (x / 2 ^ (n + b))) (bits (n + b) (x % 2 ^ (n + b))) a (length-bits a (x / 2 ^ (n + b))) in
    ap (take n) (cut ∙ bits-split n b (x % 2 ^ (n + b))) ∙ take_at (bits n (x % 2 ^ (n + b) / 2 ^ b)) (bits b (x % 2 ^ (n + b) % 2 ^ b)) n (length-bits n (x % 2 ^ (n + b) / 2 ^ b))
    ∙ ap (bits n) (field_of x n b)

pub substituted-cons : (box : List (List ℕ)) (boxes : List (List (List ℕ))) (xs : List ℕ)
    → substituted (box ∷ boxes) xs ≡ substituted_one box (take 6 xs) ++ substituted boxes (drop 6 xs)
unfolding substituted
substituted-cons box boxes xs = refl

-- ---- the rounds
pub rounds-cons : (k : List ℕ) (ks : List (List ℕ)) (l r : List ℕ) → rounds (k ∷ ks) l r ≡ rounds ks r (xor_lists l (round_value r k))
unfolding rounds
rounds-cons k ks l r = refl

pub rounds_more : (keys : List (List ℕ)) (i left right f next : ℕ) (key target : List ℕ) → i < length keys → key ≡ slice_index_or keys i []
    → bits 32 f ≡ round_value (bits 32 right) key → next ≡ bit_xor left f
    → rounds (drop i keys) (bits 32 left) (bits 32 right) ≡ target
    → rounds (drop (i + 1) keys) (bits 32 right) (bits 32 next) ≡ target
rounds_more keys i left right f next key target lt ek ef en held =
    let step : rounds (drop i keys) (bits 32 left) (bits 32 right) ≡ rounds (drop (i + 1) keys) (bits 32 right) (xor_lists (bits 32 left) (round_value (bits 32 right) (slice_index_or keys i []))) =
    ap (λ (k : List (List ℕ)). rounds k (bits 32 left) (bits 32 right)) (drop_more keys i [] lt)
    ∙ rounds-cons (slice_index_or keys i []) (drop (i + 1) keys) (bits 32 left) (bits 32 right) in
    let same : bits 32 next ≡ xor_lists (bits 32 left) (round_value (bits 32 right) (slice_index_or keys i [])) =
    ap (bits 32) en ∙ bits-xor 32 left f ∙ ap (λ (k : List ℕ). xor_lists (bits 32 left) k) (ef ∙ ap (round_value (bits 32 right)) ek) in
    ap (λ (k : List ℕ). rounds (drop (i + 1) keys) (bits 32 right) k) same ∙ sym step ∙ held

-- the round keys in order, and in reverse order
pub key_at : (keys : List ℕ) (i : ℕ) → i < length keys → key_bits (slice_index keys i) ≡ slice_index_or (map key_bits keys) i []
key_at keys i h = sym (get_or-map key_bits keys i 0 [] h)

pub key_back : (keys : List ℕ) (i e : ℕ) → i + suc e ≡ length keys → key_bits (slice_index keys e) ≡ slice_index_or (reverse (map key_bits keys)) i []
key_back keys i e at =
    let long : length (map key_bits keys) ≡ length keys = length-map keys key_bits in
    let other : length (map key_bits keys) - 1 - i ≡ e = omega arith in
    key_at keys e (omega arith) ∙ ap (λ k. slice_index_or (map key_bits keys) k []) (sym other) ∙ sym (get_or-reverse (map key_bits keys) i [] (omega arith))

pub rounds_start : (keys : List (List ℕ)) (block : ℕ)
    → rounds keys (bits 32 (block / 2 ^ 32)) (bits 32 (block % 2 ^ 32)) ≡ rounds keys (take 32 (bits 64 block)) (drop 32 (bits 64 block))
rounds_start keys block =
    let s : bits 64 block ≡ bits 32 (block / 2 ^ 32) ++ bits 32 (block % 2 ^ 32) = bits-split 32 32 block in
    let l : take 32 (bits 64 block) ≡ bits 32 (block / 2 ^ 32) = ap (take 32) s ∙ take_at (bits 32 (block / 2 ^ 32)) (bits 32 (block % 2 ^ 32)) 32 (length-bits 32 (block / 2 ^ 32)) in
    let r : drop 32 (bits 64 block) ≡ bits 32 (block % 2 ^ 32) = ap (drop 32) s ∙ drop_at (bits 32 (block / 2 ^ 32)) (bits 32 (block % 2 ^ 32)) 32 (length-bits 32 (block / 2 ^ 32)) in
    rw (l, r) refl

pub rounds_end : (keys : List (List ℕ)) (i left right : ℕ) (target : List ℕ) → left < 2 ^ 32 → length keys ≤ i
    → rounds (drop i keys) (bits 32 left) (bits 32 right) ≡ target → bits 64 (right * 2 ^ 32 + left) ≡ target
unfolding rounds
rounds_end keys i left right target small h held =
    let none : drop i keys ≡ [] = drop_all i keys h in
    bits-append 32 32 right left small ∙ ap (λ (k : List (List ℕ)). rounds k (bits 32 left) (bits 32 right)) (sym none) ∙ held

-- ---- what is turned
pub turned_is : (w x by e : ℕ) → by + e ≡ w → x < 2 ^ w
    → (bits w (x % 2 ^ e * 2 ^ by + x / 2 ^ e) ≡ turned_left by (bits w x)) × (x % 2 ^ e * 2 ^ by + x / 2 ^ e < 2 ^ w)
turned_is w x by e at h =
    let fits : x < 2 ^ (by + e) = rw at h in
    let high : x / 2 ^ e < 2 ^ by = shr_below x by e fits in
    let low : x % 2 ^ e < 2 ^ e = mod-lt x (pow_pos e) in
    let other : e + by ≡ w = omega arith in
    let whole : bits w x ≡ bits by (x / 2 ^ e) ++ bits e (x % 2 ^ e) = ap (λ k. bits k x) (sym at) ∙ bits-split by e x in
    let d : drop by (bits w x) ≡ bits e (x % 2 ^ e) = ap (drop by) whole ∙ drop_at (bits by (x / 2 ^ e)) (bits e (x % 2 ^ e)) by (length-bits by (x / 2 ^ e)) in
    let t : take by (bits w x) ≡ bits by (x / 2 ^ e) = ap (take by) whole ∙ take_at (bits by (x / 2 ^ e)) (bits e (x % 2 ^ e)) by (length-bits by (x / 2 ^ e)) in
    let sum : bits w (x % 2 ^ e * 2 ^ by + x / 2 ^ e) ≡ bits e (x % 2 ^ e) ++ bits by (x / 2 ^ e) = ap (λ k. bits k (x % 2 ^ e * 2 ^ by + x / 2 ^ e)) (sym other) ∙ bits-append e by (x % 2 ^ e) (x / 2 ^ e) high in
    let power : 2 ^ w ≡ 2 ^ e * 2 ^ by = ap (λ k. 2 ^ k) (sym other) ∙ pow-add 2 e by in
    (sum ∙ rw (d, t) refl, rw power (digits_lt low high))

-- what `rotate_right` computes, as a sum
pub rotated_is : (w x by e : ℕ) → by + e ≡ w → x < 2 ^ w → bit_or (x / 2 ^ e) (x * 2 ^ by % 2 ^ w) ≡ x % 2 ^ e * 2 ^ by + x / 2 ^ e
rotated_is w x by e at h =
    let fits : x < 2 ^ (by + e) = rw at h in
    let high : x / 2 ^ e < 2 ^ by = shr_below x by e fits in
    let other : w ≡ e + by = omega arith in
    let clear : x * 2 ^ by % 2 ^ by ≡ 0 = ap (λ k. k % 2 ^ by) (sym (add-zero (x * 2 ^ by))) ∙ mod_low x by 0 (pow_pos by) in
    let low : x * 2 ^ by % 2 ^ w ≡ x % 2 ^ e * 2 ^ by =
    ap (λ k. x * 2 ^ by % 2 ^ k) other ∙ mod-pow-add (x * 2 ^ by) e by ∙ rw (shl-shr x by, clear) (add-zero (x % 2 ^ e * 2 ^ by)) in
    ap (bit_or (x / 2 ^ e)) low ∙ or_comm (x / 2 ^ e) (x % 2 ^ e * 2 ^ by) ∙ or_shifted (x % 2 ^ e) by (x / 2 ^ e) high

pub keys_from-cons : (t : ℕ) (ts c d : List ℕ) → keys_from (t ∷ ts) c d ≡ permuted second_choice (turned_left t c ++ turned_left t d) ∷ keys_from ts (turned_left t c) (turned_left t d)
unfolding keys_from
keys_from-cons t ts c d = refl

pub keys_more : (ts keys : List ℕ) (i c d c2 d2 k : ℕ) (target : List (List ℕ)) → i < length ts → i < length keys
    → bits 28 c2 ≡ turned_left (get_or ts i 0) (bits 28 c) → bits 28 d2 ≡ turned_left (get_or ts i 0) (bits 28 d)
    → key_bits k ≡ permuted second_choice (bits 28 c2 ++ bits 28 d2)
    → map key_bits (take i keys) ++ keys_from (drop i ts) (bits 28 c) (bits 28 d) ≡ target
    → map key_bits (take (i + 1) (set keys i k)) ++ keys_from (drop (i + 1) ts) (bits 28 c2) (bits 28 d2) ≡ target
keys_more ts keys i c d c2 d2 k target lt lk ec ed ek held =
    let one : key_bits k ≡ permuted second_choice (turned_left (get_or ts i 0) (bits 28 c) ++ turned_left (get_or ts i 0) (bits 28 d)) = ek ∙ rw (ec, ed) refl in
    let rest : keys_from (drop i ts) (bits 28 c) (bits 28 d) ≡ key_bits k ∷ keys_from (drop (i + 1) ts) (bits 28 c2) (bits 28 d2) =
    ap (λ (l : List ℕ). keys_from l (bits 28 c) (bits 28 d)) (drop_more ts i 0 lt) ∙ keys_from-cons (get_or ts i 0) (drop (i + 1) ts) (bits 28 c) (bits 28 d) ∙ rw (one, ec, ed) refl in
    let written : map key_bits (take (i + 1) (set keys i k)) ≡ map key_bits (take i keys) ++ key_bits k ∷ [] =
    ap (map key_bits) (take_more_set keys i k lk) ∙ map_push key_bits (take i keys) k in
    ap (λ (l : List (List ℕ)). l ++ keys_from (drop (i + 1) ts) (bits 28 c2) (bits 28 d2)) written
    ∙ append_assoc (map key_bits (take i keys)) (key_bits k ∷ []) (keys_from (drop (i + 1) ts) (bits 28 c2) (bits 28 d2))
    ∙ ap (λ (l : List (List ℕ)). map key_bits (take i keys) ++ l) (sym rest) ∙ held

pub keys_start : (ts : List ℕ) (chosen : ℕ) (q : List ℕ) → bits 56 chosen ≡ q
    → keys_from ts (bits 28 (chosen / 2 ^ 28)) (bits 28 (chosen % 2 ^ 28)) ≡ keys_from ts (take 28 q) (drop 28 q)
keys_start ts chosen q e =
    let s : q ≡ bits 28 (chosen / 2 ^ 28) ++ bits 28 (chosen % 2 ^ 28) = sym e ∙ bits-split 28 28 chosen in
    let l : take 28 q ≡ bits 28 (chosen / 2 ^ 28) = ap (take 28) s ∙ take_at (bits 28 (chosen / 2 ^ 28)) (bits 28 (chosen % 2 ^ 28)) 28 (length-bits 28 (chosen / 2 ^ 28)) in
    let r : drop 28 q ≡ bits 28 (chosen % 2 ^ 28) = ap (drop 28) s ∙ drop_at (bits 28 (chosen / 2 ^ 28)) (bits 28 (chosen % 2 ^ 28)) 28 (length-bits 28 (chosen / 2 ^ 28)) in
    rw (l, r) refl

pub keys_end : (ts keys : List ℕ) (i : ℕ) (c d : List ℕ) (target : List (List ℕ)) → length ts ≤ i → length keys ≤ i
    → map key_bits (take i keys) ++ keys_from (drop i ts) c d ≡ target → map key_bits keys ≡ target
unfolding keys_from
keys_end ts keys i c d target ht hk held =
    let none : drop i ts ≡ [] = drop_all i ts ht in
    let all : take i keys ≡ keys = take_all i keys hk in
    sym (append-nil (map key_bits keys)) ∙ ap (λ (l : List ℕ). map key_bits keys ++ keys_from l c d) (sym none)
    ∙ ap (λ (l : List ℕ). map key_bits l ++ keys_from (drop i ts) c d) (sym all) ∙ held

pub few_turns : (ts : List ℕ) (i : ℕ) → list_all (λ t. nat_le t 28) ts ≡ true → i < length ts → slice_index ts i ≤ 28
few_turns ts i h lt = let at : nat_le (slice_index ts i) 28 ≡ true = AllPass-from_list_all (λ t. nat_le t 28) ts h i 0 lt in grind (arith, nat_tests)
