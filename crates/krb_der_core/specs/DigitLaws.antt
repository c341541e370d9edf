-- The digits of a number to any base.
use Rattle.std.proofs.Common.{◌≡◌, ℕ, zero, suc, ◌+◌, ◌*◌, ◌<◌, ◌≤◌, [], ◌∷◌, ◌++◌, length, get_or, ◌∙◌, arith}
use Rattle.std.proofs.lemmas.Nat.{div-mul-add, mod-mul-add}
use Rattle.std.specs.Int.Digits.{digits_of}
use Rattle.std.proofs.lemmas.Int.Digits.{digits_of_step, first_digits_of}

same_digits : (base n m b c : ℕ) → n ≡ m → b ≡ c → digits_of base n ++ (b ∷ []) ≡ digits_of base m ++ (c ∷ [])
same_digits base n m b c p q = cc

-- one digit more
pub digits_more : (base n b : ℕ) → 2 ≤ base → 0 < n * base + b → b < base → digits_of base (n * base + b) ≡ digits_of base n ++ (b ∷ [])
digits_more base n b two some below =
    digits_of_step base (n * base + b) two some ∙ same_digits base _ n _ b (div-mul-add n base b below) (mod-mul-add n base b below)

-- the first digit is not zero
pub first_digit : (base n : ℕ) → 2 ≤ base → 0 < length (digits_of base n) → 0 < get_or (digits_of base n) 0 0
first_digit base zero two some = absurd (omega (arith, some))
first_digit base (suc n) two some = first_digits_of base (suc n) two (omega arith)
