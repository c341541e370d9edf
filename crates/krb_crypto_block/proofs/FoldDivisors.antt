-- The greatest common divisor, by Euclid's algorithm, and the copies that the least common multiple holds.
use Rattle.std.proofs.Common.{◌≡◌, ℕ, zero, suc, ◌+◌, ◌*◌, ◌/◌, ◌%◌, ◌<◌, ◌≤◌, ◌==◌, ◌&&◌, Bool, true, false, refl, sym, ap, ◌∙◌, arith, inl, inr}
use Rattle.std.specs.Prelude.{if◌then◌else◌}
use Rattle.std.specs.Int.{IsGcd}
use Rattle.std.proofs.lemmas.Bool.{and_parts, eqb-true, eq-eqb, cases_lt}
use Rattle.std.proofs.lemmas.Nat.Gcd.{IsGcd-from_zero, IsGcd-from_mod, le_from_IsGcd, le_of_dvd, dvd_of_mod-eq-zero, mod-eq-zero_of_dvd}
use Rattle.std.proofs.Math.Arith.{digits_mod}
use Rattle.std.proofs.Math.Nat.{mod-lt, div-add-mod', pos_of_dvd_of_pos, mul-div-mul_left, mul-div_cancel, mul-div_cancel', mul-mod_right}
use Rattle.krb_crypto_block.specs.Fold.{common_below, gcd, lcm}

-- Euclid's algorithm in at most so many steps
unfoldable gcd_within : ℕ → ℕ → ℕ → ℕ
gcd_within zero a b = a
gcd_within (suc steps) a zero = a
gcd_within (suc steps) a (suc b) = gcd_within steps (suc b) (a % suc b)

IsGcd-within : (steps a b : ℕ) → b ≤ steps → IsGcd a b (gcd_within steps a b)
unfolding gcd_within
IsGcd-within zero a b h = IsGcd-from_zero a b (omega arith)
IsGcd-within (suc steps) a zero h = IsGcd-from_zero a 0 refl
IsGcd-within (suc steps) a (suc b) h = IsGcd-from_mod a (suc b) (gcd_within steps (suc b) (a % suc b)) (IsGcd-within steps (suc b) (a % suc b) (omega arith))

-- one step of the search for it, from above
common_step : (a b g n : ℕ) (t : Bool) → ((a % suc n == 0) && (b % suc n == 0)) ≡ t → IsGcd a b g → 0 < g → g ≤ suc n → (g ≤ n → common_below a b n ≡ g)
    → (if t then suc n else common_below a b n) ≡ g
common_step a b g n true e is pos le more =
    let parts = and_parts (a % suc n == 0) (b % suc n == 0) e in
    let low : suc n ≤ g = le_from_IsGcd a b g (suc n) is pos (dvd_of_mod-eq-zero (suc n) (eqb-true (a % suc n) 0 parts.0)) (dvd_of_mod-eq-zero (suc n) (eqb-true (b % suc n) 0 parts.1)) in
    omega arith
common_step a b g n false e is pos le more = elim (cases_lt n g) [
  | inl above ↦
      let same : g ≡ suc n = omega arith in
      let first : (a % suc n == 0) ≡ true = eq-eqb (a % suc n) 0 (mod-eq-zero_of_dvd (suc n) (rw same at is.0)) in
      let second : (b % suc n == 0) ≡ true = eq-eqb (b % suc n) 0 (mod-eq-zero_of_dvd (suc n) (rw same at is.1)) in
      absurd (let reported : true ≡ false = rw (first, second) at e in cc)
  | inr below ↦ more (omega arith)
]

common_is : (a b g n : ℕ) → IsGcd a b g → 0 < g → g ≤ n → common_below a b n ≡ g
unfolding common_below
common_is a b g zero is pos le = absurd (omega arith)
common_is a b g (suc n) is pos le = common_step a b g n ((a % suc n == 0) && (b % suc n == 0)) refl is pos le (λ low. common_is a b g n is pos low)

-- the greatest common divisor is what Euclid's algorithm finds
gcd-within : (steps a b : ℕ) → 0 < a → b ≤ steps → gcd a b ≡ gcd_within steps a b
unfolding gcd
gcd-within steps a b h enough =
    let is = IsGcd-within steps a b enough in
    let pos : 0 < gcd_within steps a b = pos_of_dvd_of_pos is.0 h in
    let low : gcd_within steps a b ≤ a = le_of_dvd h is.0 in
    common_is a b (gcd_within steps a b) (a + b) is pos (omega (arith, low))

pub IsGcd-gcd : (a b : ℕ) → 0 < a → IsGcd a b (gcd a b)
IsGcd-gcd a b h = rw (gcd-within b a b h (omega arith)) (IsGcd-within b a b (omega arith))

mod-scaled : (a b : ℕ) → 0 < b → (8 * a) % (8 * b) ≡ 8 * (a % b)
mod-scaled a b pos =
    let lt : a % b < b = mod-lt a pos in
    let small : 8 * (a % b) < 8 * b = omega arith in
    let e : 8 * a ≡ a / b * (8 * b) + 8 * (a % b) = omega (arith, div-add-mod' a b) in
    ap (λ (k : ℕ). k % (8 * b)) e ∙ digits_mod (a / b) small

within-scaled : (steps a b : ℕ) → gcd_within steps (8 * a) (8 * b) ≡ 8 * gcd_within steps a b
unfolding gcd_within
within-scaled zero a b = refl
within-scaled (suc steps) a zero = refl
within-scaled (suc steps) a (suc b) =
    let e : 8 * suc b ≡ suc (8 * b + 7) = omega arith in
    let m : (8 * a) % (8 * suc b) ≡ 8 * (a % suc b) = mod-scaled a (suc b) (omega arith) in
    let step : gcd_within (suc steps) (8 * a) (suc (8 * b + 7)) ≡ gcd_within steps (8 * suc b) ((8 * a) % (8 * suc b)) = rw e refl in
    rw e (step ∙ ap (λ (k : ℕ). gcd_within steps (8 * suc b) k) m ∙ within-scaled steps (suc b) (a % suc b))

turn : (g p q a b : ℕ) → g * p ≡ a → g * q ≡ b → p * b ≡ a * q
turn g p q a b d f = rw (← d, ← f) (omega arith)

gcd-scaled : (a b : ℕ) → 0 < a → gcd (8 * a) (8 * b) ≡ 8 * gcd a b
gcd-scaled a b h =
    gcd-within (8 * b) (8 * a) (8 * b) (omega arith) (omega arith) ∙ within-scaled (8 * b) a b ∙ ap (λ (k : ℕ). 8 * k) (sym (gcd-within (8 * b) a b h (omega arith)))

pub gcd_pos : (a b : ℕ) → 0 < a → 0 < gcd a b
gcd_pos a b h = pos_of_dvd_of_pos (IsGcd-gcd a b h).0 h

-- how many copies the least common multiple holds
pub copies : (a b : ℕ) → 0 < a → 0 < b → lcm (8 * a) (8 * b) / (8 * b) ≡ a / gcd a b
copies a b ha hb =
    let g : 0 < gcd a b = gcd_pos a b ha in
    let eight : 0 < 8 = omega arith in
    let big : 0 < 8 * b = omega arith in
    let per : 8 * a / gcd (8 * a) (8 * b) ≡ a / gcd a b = rw (gcd-scaled a b ha) (mul-div-mul_left a (gcd a b) eight) in
    rw per (mul-div_cancel (a / gcd a b) big)

-- the copies fill whole turns
pub whole_turns : (a b : ℕ) → 0 < a → 0 < b → (a / gcd a b * b) % a ≡ 0
whole_turns a b ha hb =
    let d : gcd a b * (a / gcd a b) ≡ a = mul-div_cancel' (gcd a b) (IsGcd-gcd a b ha).0 in
    let f : gcd a b * (b / gcd a b) ≡ b = mul-div_cancel' (gcd a b) (IsGcd-gcd a b ha).1 in
    let e : a / gcd a b * b ≡ a * (b / gcd a b) = turn (gcd a b) (a / gcd a b) (b / gcd a b) a b d f in
    rw e (mul-mod_right a (b / gcd a b))
