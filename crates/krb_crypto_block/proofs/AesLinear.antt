-- The product of octets is additive in its second factor, and additive functions of octets.
use Rattle.std.proofs.Common.{◌≡◌, ℕ, zero, suc, ◌+◌, ◌-◌, ◌*◌, ◌^◌, ◌%◌, ◌<◌, ◌≤◌, true, bit_xor, refl, sym, ap, ◌∙◌, arith, inl, inr}
use Rattle.std.proofs.lemmas.Bool.{cases_lt}
use Rattle.std.specs.Int.{bit_at}
use Rattle.std.proofs.lemmas.Nat.{xor_comm}
use Rattle.std.proofs.lemmas.Nat.Bits.{bit_at_xor, bit_at-lt}
use Rattle.std.proofs.Math.Nat.{zero-mul, pow-suc}
use lib.Bits.{xor_assoc, xor_self, xor_zero_r}
use Rattle.krb_crypto_block.specs.Polynomial.{product, modulus, remainder, times}
use Rattle.krb_crypto_block.proofs.Tables.{same_below, same_below_at, all_below, all_below_at}

pub xor_medial : (a b c d : ℕ) → bit_xor (bit_xor a b) (bit_xor c d) ≡ bit_xor (bit_xor a c) (bit_xor b d)
xor_medial a b c d =
    xor_assoc a b (bit_xor c d)
    ∙ ap (bit_xor a) (sym (xor_assoc b c d) ∙ ap (λ (x : ℕ). bit_xor x d) (xor_comm b c) ∙ xor_assoc c b d)
    ∙ sym (xor_assoc a c (bit_xor b d))

-- a coefficient that is a sum of two
pub scale_xor : (b c m : ℕ) → b < 2 → c < 2 → (b + c) % 2 * m ≡ bit_xor (b * m) (c * m)
scale_xor zero zero m p q = rw zero-mul refl
scale_xor zero (suc zero) m p q = rw zero-mul refl
scale_xor (suc zero) zero m p q = rw zero-mul (sym (xor_zero_r (1 * m)))
scale_xor (suc zero) (suc zero) m p q = rw zero-mul (sym (xor_self (1 * m)))
scale_xor (suc (suc b)) c m p q = absurd (omega arith)
scale_xor b (suc (suc c)) m p q = absurd (omega arith)

product_xor : (a x y n : ℕ) → product a (bit_xor x y) n ≡ bit_xor (product a x n) (product a y n)
product_xor a x y zero = refl
product_xor a x y (suc i) =
    let m = a * 2 ^ i in
    let here : bit_at (bit_xor x y) i * m ≡ bit_xor (bit_at x i * m) (bit_at y i * m) =
    ap (λ (b : ℕ). b * m) (bit_at_xor x y i) ∙ scale_xor (bit_at x i) (bit_at y i) m (bit_at-lt x i) (bit_at-lt y i) in
    ap (λ (z : ℕ). bit_xor z (product a (bit_xor x y) i)) here
    ∙ ap (bit_xor (bit_xor (bit_at x i * m) (bit_at y i * m))) (product_xor a x y i)
    ∙ xor_medial (bit_at x i * m) (bit_at y i * m) (product a x i) (product a y i)

remainder_xor : (n p q : ℕ) → remainder n (bit_xor p q) ≡ bit_xor (remainder n p) (remainder n q)
remainder_xor zero p q = refl
remainder_xor (suc n) p q =
    let m = modulus * 2 ^ n in
    let here : bit_at (bit_xor p q) (n + 8) * m ≡ bit_xor (bit_at p (n + 8) * m) (bit_at q (n + 8) * m) =
    ap (λ (b : ℕ). b * m) (bit_at_xor p q (n + 8)) ∙ scale_xor (bit_at p (n + 8)) (bit_at q (n + 8)) m (bit_at-lt p (n + 8)) (bit_at-lt q (n + 8)) in
    ap (remainder n) (ap (bit_xor (bit_xor p q)) here ∙ xor_medial p q (bit_at p (n + 8) * m) (bit_at q (n + 8) * m))
    ∙ remainder_xor n (bit_xor p (bit_at p (n + 8) * m)) (bit_xor q (bit_at q (n + 8) * m))

pub times_xor : (a x y : ℕ) → times a (bit_xor x y) ≡ bit_xor (times a x) (times a y)
unfolding times
times_xor a x y = ap (remainder 7) (product_xor a x y 8) ∙ remainder_xor 7 (product a x 8) (product a y 8)

-- ---- functions that are additive

abbrev pub IsAdditive : (ℕ → ℕ) → Type 0
IsAdditive f = (x y : ℕ) → f (bit_xor x y) ≡ bit_xor (f x) (f y)

pub additive_times : (a : ℕ) → IsAdditive (times a)
additive_times a = times_xor a

pub additive_one : IsAdditive (λ x. x)
additive_one x y = refl

pub additive_after : (f g : ℕ → ℕ) → IsAdditive f → IsAdditive g → IsAdditive (λ x. f (g x))
additive_after f g hf hg x y = ap f (hg x y) ∙ hf (g x) (g y)

-- it takes 0 to 0
additive_zero : (f : ℕ → ℕ) → IsAdditive f → f 0 ≡ 0
additive_zero f h = h 0 0 ∙ xor_self (f 0)

-- a highest bit is added
highest_table : all_below (λ n. same_below (λ y. bit_xor y (2 ^ n)) (λ y. y + 2 ^ n) (2 ^ n)) 8 ≡ true
highest_table = refl

highest : (n y : ℕ) → n < 8 → y < 2 ^ n → bit_xor y (2 ^ n) ≡ y + 2 ^ n
highest n y small low =
    same_below_at (λ z. bit_xor z (2 ^ n)) (λ z. z + 2 ^ n) (2 ^ n) y
    (all_below_at (λ m. same_below (λ z. bit_xor z (2 ^ m)) (λ z. z + 2 ^ m) (2 ^ m)) 8 n highest_table small) low

same_from : (f g : ℕ → ℕ) → IsAdditive f → IsAdditive g → ((i : ℕ) → i < 8 → f (2 ^ i) ≡ g (2 ^ i)) → (n x : ℕ) → n ≤ 8 → x < 2 ^ n → f x ≡ g x
same_from f g hf hg at zero x small low =
    let e : x ≡ 0 = omega arith in
    rw e (additive_zero f hf ∙ sym (additive_zero g hg))
same_from f g hf hg at (suc n) x small low =
    elim (cases_lt x (2 ^ n)) [
      | inl below ↦ same_from f g hf hg at n x (omega arith) below
      | inr above ↦
          let twice : 2 ^ suc n ≡ 2 ^ n * 2 = pow-suc 2 n in
          let rest : x - 2 ^ n < 2 ^ n = omega (arith, twice) in
          let split : x ≡ bit_xor (x - 2 ^ n) (2 ^ n) = sym (highest n (x - 2 ^ n) (omega arith) rest ∙ omega arith) in
          ap f split ∙ hf (x - 2 ^ n) (2 ^ n)
          ∙ ap (λ (k : ℕ). bit_xor k (f (2 ^ n))) (same_from f g hf hg at n (x - 2 ^ n) (omega arith) rest)
          ∙ ap (bit_xor (g (x - 2 ^ n))) (at n (omega arith)) ∙ sym (hg (x - 2 ^ n) (2 ^ n)) ∙ sym (ap g split)
    ]

-- two that agree on the powers of x agree on every octet
pub same_octets : (f g : ℕ → ℕ) → IsAdditive f → IsAdditive g → same_below (λ i. f (2 ^ i)) (λ i. g (2 ^ i)) 8 ≡ true → (x : ℕ) → x < 256 → f x ≡ g x
same_octets f g hf hg table x low = same_from f g hf hg (λ i small. same_below_at (λ j. f (2 ^ j)) (λ j. g (2 ^ j)) 8 i table small) 8 x (omega arith) low
