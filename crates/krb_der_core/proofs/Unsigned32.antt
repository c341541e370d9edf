-- The first digit of a number.
use Rattle.std.proofs.Common.{◌≡◌, ℕ, zero, suc, ◌+◌, ◌*◌, ◌/◌, ◌%◌, ◌<◌, ◌≤◌, List, [], ◌∷◌, ◌++◌, get_or, refl, sym, ap, ◌∙◌, arith}
use Rattle.std.specs.Int.Digits.{digits_of}
use Rattle.std.proofs.lemmas.Int.Digits.{digits_of_step, first_digits_of}
use Rattle.krb_der_core.specs.DigitLaws.{digits_more}

pub small_digit : (n : ℕ) → n < 256 → n ≡ get_or (digits_of 256 n) 0 0
small_digit zero h = refl
small_digit (suc n) h =
    let same : 0 * 256 + suc n ≡ suc n = omega arith in
    sym (ap (λ (l : List ℕ). get_or l 0 0) (ap (digits_of 256) (sym same) ∙ digits_more 256 0 (suc n) (omega arith) (omega arith) h))

kept : (ds x : List ℕ) → 0 < get_or ds 0 0 → get_or ds 0 0 ≡ get_or (ds ++ x) 0 0
kept [] x h = absurd (omega (arith, h))
kept (d ∷ ds) x h = refl

pub large_digit : (n k : ℕ) → 256 ≤ n → k ≡ get_or (digits_of 256 (n / 256)) 0 0 → k ≡ get_or (digits_of 256 n) 0 0
large_digit n k h e =
    e ∙ kept (digits_of 256 (n / 256)) (n % 256 ∷ []) (first_digits_of 256 (n / 256) (omega arith) (omega (arith, h)))
    ∙ ap (λ (l : List ℕ). get_or l 0 0) (sym (digits_of_step 256 n (omega arith) (omega (arith, h))))
