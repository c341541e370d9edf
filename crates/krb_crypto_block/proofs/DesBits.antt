-- The bits of numbers.
use Rattle.std.proofs.Common.{◌≡◌, ℕ, zero, suc, ◌+◌, ◌*◌, ◌/◌, ◌%◌, ◌^◌, ◌<◌, [], ◌∷◌, ◌++◌, length, slice_index, bit_xor, refl, sym, ap, ◌∙◌, arith, add-one, add-zero}
use Rattle.std.proofs.lemmas.List.{length_push, get_or_append_left, get_or_push, append_assoc, append-nil, same_from_push}
use Rattle.std.proofs.lemmas.Nat.{xor_shr, xor_mod}
use Rattle.std.proofs.Math.Arith.{digits_div, digits_mod}
use Rattle.std.proofs.Math.Nat.{add-suc, pow-suc, div-one, div-div-eq-div-mul}
use Rattle.krb_crypto_hash.specs.Xor.{xor_lists}
use Rattle.krb_crypto_block.specs.Des.{bits}
use Rattle.krb_crypto_hash.proofs.XorLists.{xor_lists-append}

pub bits-suc : (w n : ℕ) → bits (suc w) n ≡ bits w (n / 2) ++ (n % 2) ∷ []
unfolding bits
bits-suc w n = refl

pub bits-zero : (n : ℕ) → bits 0 n ≡ []
unfolding bits
bits-zero n = refl

pub length-bits : (w n : ℕ) → length (bits w n) ≡ w
length-bits zero n = rw bits-zero refl
length-bits (suc w) n = rw (bits-suc) (length_push (bits w (n / 2)) (n % 2) ∙ ap (λ k. k + 1) (length-bits w (n / 2)) ∙ add-one w)

-- n 2^b + m has the bits of n and then those of m
pub bits-append : (a b n m : ℕ) → m < 2 ^ b → bits (a + b) (n * 2 ^ b + m) ≡ bits a n ++ bits b m
bits-append a zero n m h =
    let z : m ≡ 0 = omega arith in
    let one : n * 2 ^ 0 + m ≡ n = omega arith in
    rw (add-zero, one, bits-zero) (sym (append-nil (bits a n)))
bits-append a (suc b) n m h =
    let two : 2 ^ suc b ≡ 2 ^ b * 2 = pow-suc 2 b in
    let half : m / 2 < 2 ^ b = omega (arith, two) in
    let r : m % 2 < 2 = omega arith in
    let parts : n * 2 ^ suc b + m ≡ (n * 2 ^ b + m / 2) * 2 + m % 2 = rw two (omega arith) in
    rw (add-suc, bits-suc b m, parts, bits-suc (a + b) ((n * 2 ^ b + m / 2) * 2 + m % 2), digits_div (n * 2 ^ b + m / 2) r, digits_mod (n * 2 ^ b + m / 2) r, bits-append a b n (m / 2) half)
    (append_assoc (bits a n) (bits b (m / 2)) ((m % 2) ∷ []))

-- bit i from the left
pub slice_index-bits : (w n i e : ℕ) → i + suc e ≡ w → slice_index (bits w n) i ≡ n / 2 ^ e % 2
slice_index-bits zero n i e at = absurd (omega arith)
slice_index-bits (suc w) n i zero at =
    let ei : i ≡ w = omega arith in
    rw (bits-suc, ei) (get_or_push (bits w (n / 2)) (n % 2) 0 w (length-bits w (n / 2)) ∙ ap (λ k. k % 2) (sym (div-one n)))
slice_index-bits (suc w) n i (suc e) at =
    let lt : i < length (bits w (n / 2)) = omega (arith, length-bits w (n / 2)) in
    let below : i + suc e ≡ w = omega arith in
    let shift : n / 2 / 2 ^ e ≡ n / 2 ^ suc e = div-div-eq-div-mul n 2 (2 ^ e) ∙ ap (λ k. n / k) (omega (arith, pow-suc 2 e)) in
    rw bits-suc (get_or_append_left (bits w (n / 2)) ((n % 2) ∷ []) 0 i lt ∙ slice_index-bits w (n / 2) i e below ∙ ap (λ k. k % 2) shift)

pub bits-xor : (w a b : ℕ) → bits w (bit_xor a b) ≡ xor_lists (bits w a) (bits w b)
bits-xor zero a b = rw (bits-zero (bit_xor a b), bits-zero a) refl
bits-xor (suc w) a b =
    let q : bit_xor a b / 2 ≡ bit_xor (a / 2) (b / 2) = xor_shr a b 1 in
    let r : bit_xor a b % 2 ≡ bit_xor (a % 2) (b % 2) = xor_mod a b 1 in
    rw (bits-suc w (bit_xor a b), bits-suc w a, bits-suc w b, q, r, bits-xor w (a / 2) (b / 2)) (sym (xor_lists-append (bits w (a / 2)) (bits w (b / 2)) ((a % 2) ∷ []) ((b % 2) ∷ []) (length-bits w (a / 2) ∙ sym (length-bits w (b / 2)))))

-- numbers of w bits with the same bits are the same
pub same_from_bits : (w a b : ℕ) → a < 2 ^ w → b < 2 ^ w → bits w a ≡ bits w b → a ≡ b
same_from_bits zero a b ha hb e = omega arith
same_from_bits (suc w) a b ha hb e =
    let two : 2 ^ suc w ≡ 2 ^ w * 2 = pow-suc 2 w in
    let parts : (bits w (a / 2) ≡ bits w (b / 2)) × (a % 2 ≡ b % 2) = same_from_push (bits w (a / 2)) (bits w (b / 2)) (a % 2) (b % 2) (sym (bits-suc w a) ∙ e ∙ bits-suc w b) in
    let half : a / 2 ≡ b / 2 = same_from_bits w (a / 2) (b / 2) (omega (arith, two)) (omega (arith, two)) parts.0 in
    omega (arith, half, parts.1)
