-- Octets of numbers, and numbers of octets.
use Rattle.std.proofs.Common.{◌≡◌, ℕ, zero, suc, ◌+◌, ◌-◌, ◌*◌, ◌/◌, ◌%◌, ◌^◌, ◌<◌, ◌≤◌, List, [], ◌∷◌, ◌++◌, length, get_or, refl, sym, ap, subst, ◌∙◌, arith, add-one, add-zero}
use Rattle.std.proofs.Math.Arith.{digits_div}
use Rattle.std.proofs.Math.Nat.{add-mul, div-add-mod', add-mul-div_right, add-mul-mod_self_right, mod-eq_of_lt, pow-suc, mul-le-mul_right, mul-one, add-suc, mul_assoc}
use Rattle.std.proofs.lemmas.Nat.{pow-add}
use Rattle.std.proofs.lemmas.List.{length-append, length-set}
use Rattle.std.proofs.Math.ListN.{set}
use Rattle.krb_crypto_block.specs.Fold.{number}
use Rattle.krb_crypto_block.specs.Modes.{IsOctets}

-- what an octet at place i from the right is worth
unfoldable pub worth : ℕ → ℕ
worth i = 256 ^ i

pub worth-zero : worth 0 ≡ 1
unfolding worth
worth-zero = refl

pub worth-suc : (i : ℕ) → worth (suc i) ≡ worth i * 256
unfolding worth
worth-suc i = pow-suc 256 i

pub worth_pos : (i : ℕ) → 0 < worth i
worth_pos zero = rw worth-zero (omega arith)
worth_pos (suc i) = rw worth-suc (omega (arith, worth_pos i))

pub worth-add : (i j : ℕ) → worth (i + j) ≡ worth i * worth j
worth-add i zero = rw (add-zero, worth-zero) (sym (mul-one (worth i)))
worth-add i (suc j) = rw (add-suc, worth-suc, worth-add i j, worth-suc j) (mul_assoc (worth i) (worth j) 256)

pub worth_pow : (i : ℕ) → worth i ≡ 2 ^ (8 * i)
worth_pow zero = worth-zero
worth_pow (suc i) =
    let e : 8 * suc i ≡ 8 * i + 8 = omega arith in
    rw (e, worth-suc, worth_pow i) (sym (pow-add 2 (8 * i) 8))

pub number-nil : number [] ≡ 0
unfolding number
number-nil = refl

pub number-cons : (x : ℕ) (xs : List ℕ) → number (x ∷ xs) ≡ x * worth (length xs) + number xs
unfolding number worth
number-cons x xs = refl

pub IsOctets-tail : (x : ℕ) (xs : List ℕ) → IsOctets (x ∷ xs) → IsOctets xs
IsOctets-tail x xs h i = h (suc i)

pub number_lt : (xs : List ℕ) → IsOctets xs → number xs < worth (length xs)
number_lt [] h = rw number-nil (worth_pos 0)
number_lt (x ∷ xs) h =
    let hx : x ≤ 255 = omega (arith, h 0) in
    let low : number xs < worth (length xs) = number_lt xs (IsOctets-tail x xs h) in
    let bound : x * worth (length xs) ≤ 255 * worth (length xs) = mul-le-mul_right (worth (length xs)) hx in
    rw (number-cons, worth-suc) (omega arith)

pub number-append : (xs ys : List ℕ) → number (xs ++ ys) ≡ number xs * worth (length ys) + number ys
number-append [] ys = rw number-nil (omega arith)
number-append (x ∷ xs) ys =
    rw (number-cons x (xs ++ ys), number-cons x xs, number-append xs ys, length-append xs ys, worth-add (length xs) (length ys)) (omega arith)

-- an octet is not changed by what stands above
octet_high_at : (a d e n : ℕ) → (a * worth (d + suc e) + n) / worth e % 256 ≡ n / worth e % 256
octet_high_at a d e n =
    let w : worth (d + suc e) ≡ worth d * (worth e * 256) = rw (worth-add d (suc e), worth-suc e) refl in
    let whole : a * worth (d + suc e) + n ≡ n + (a * worth d * 256) * worth e = rw w (omega arith) in
    let pos : 0 < worth e = worth_pos e in
    rw (whole, add-mul-div_right n (a * worth d * 256) pos) (add-mul-mod_self_right (n / worth e) (a * worth d) 256)

pub octet-high : (a k e n : ℕ) → e < k → (a * worth k + n) / worth e % 256 ≡ n / worth e % 256
octet-high a k e n lt =
    let at : k ≡ (k - suc e) + suc e = omega arith in
    subst (λ (m : ℕ). (a * worth m + n) / worth e % 256 ≡ n / worth e % 256) (sym at) (octet_high_at a (k - suc e) e n)

-- the octet at place i from the left and e from the right
pub octet_of : (xs : List ℕ) (i e : ℕ) → IsOctets xs → i + suc e ≡ length xs → number xs / worth e % 256 ≡ get_or xs i 0
octet_of [] i e h at = absurd (omega arith)
octet_of (x ∷ xs) zero e h at =
    let ee : e ≡ length xs = omega arith in
    let low : number xs < worth (length xs) = number_lt xs (IsOctets-tail x xs h) in
    rw (number-cons, ee, digits_div x low) (mod-eq_of_lt (h 0))
octet_of (x ∷ xs) (suc i) e h at =
    let lt : e < length xs = omega arith in
    let tail : i + suc e ≡ length xs = omega arith in
    rw (number-cons, octet-high x (length xs) e (number xs) lt) (octet_of xs i e (IsOctets-tail x xs h) tail)

pub number-set : (xs : List ℕ) (i e x : ℕ) → i + suc e ≡ length xs
    → number (set xs i x) + get_or xs i 0 * worth e ≡ number xs + x * worth e
number-set [] i e x at = absurd (omega arith)
number-set (y ∷ ys) zero e x at =
    let ee : e ≡ length ys = omega arith in
    rw (ee, number-cons x ys, number-cons y ys) (omega arith)
number-set (y ∷ ys) (suc i) e x at =
    let tail : i + suc e ≡ length ys = omega arith in
    let same : length (set ys i x) ≡ length ys = length-set ys i x in
    rw (number-cons y (set ys i x), number-cons y ys, same) (omega (arith, number-set ys i e x tail))

sum_parts : (new all old x c w up : ℕ) → up ≡ w * 256 → new + old * w ≡ all + ((old + x + c) % 256) * w → new + (old + x + c) / 256 * up ≡ all + (x + c) * w
sum_parts new all old x c w up eu en =
    let parts : (old + x + c) / 256 * 256 + (old + x + c) % 256 ≡ old + x + c = div-add-mod' (old + x + c) 256 in
    let scaled : (old + x + c) / 256 * 256 * w + ((old + x + c) % 256) * w ≡ (old + x + c) * w = sym (add-mul ((old + x + c) / 256 * 256) ((old + x + c) % 256) w) ∙ ap (λ (k : ℕ). k * w) parts in
    rw eu (omega (arith, en, scaled))

-- the number after an octet and a carry are added at a place
pub sum_value : (xs : List ℕ) (p x c : ℕ) → p < length xs
    → number (set xs (length xs - 1 - p) ((get_or xs (length xs - 1 - p) 0 + x + c) % 256)) + (get_or xs (length xs - 1 - p) 0 + x + c) / 256 * worth (p + 1)
    ≡ number xs + (x + c) * worth p
sum_value xs p x c h =
    let at : length xs - 1 - p + suc p ≡ length xs = omega arith in
    let old : ℕ = get_or xs (length xs - 1 - p) 0 in
    sum_parts (number (set xs (length xs - 1 - p) ((old + x + c) % 256))) (number xs) old x c (worth p) (worth (p + 1))
    (rw (add-one, worth-suc) refl) (number-set xs (length xs - 1 - p) p ((old + x + c) % 256) at)
