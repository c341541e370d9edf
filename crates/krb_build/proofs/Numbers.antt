-- Whole numbers after an octet of their sign.
use Rattle.std.proofs.Common.{◌≡◌, ℕ, ◌-◌, List, [], ◌∷◌, ◌++◌, ℤ, pos, negsuc, refl, ap, ◌∙◌, arith}
use Rattle.std.specs.Int.Digits.{digits_of, number_from_digits, AllBelowBase}
use Rattle.std.proofs.lemmas.Int.Digits.{number_digits_of, all_below_base_digits_of}
use Rattle.krb_der_core.specs.Integer.{inverted, whole_number}

pub inverted-append : (xs ys : List ℕ) → inverted (xs ++ ys) ≡ inverted xs ++ inverted ys
inverted-append [] ys = refl
inverted-append (d ∷ ds) ys = ap (λ (l : List ℕ). (255 - d) ∷ l) (inverted-append ds ys)

same_conses : (d e : ℕ) (ds es : List ℕ) → d ≡ e → ds ≡ es → d ∷ ds ≡ e ∷ es
same_conses d e ds es p q = cc

inverted_twice : (c : List ℕ) → AllBelowBase 256 c → inverted (inverted c) ≡ c
inverted_twice [] h = refl
inverted_twice (d ∷ ds) h = same_conses (255 - (255 - d)) d (inverted (inverted ds)) ds (omega (arith, h.0)) (inverted_twice ds h.1)

pub whole_number-digits : (n : ℕ) → whole_number (0 ∷ digits_of 256 n) ≡ pos n
whole_number-digits n = ap pos (number_digits_of 256 n (omega arith))

pub whole_number-inverted : (n : ℕ) → whole_number (255 ∷ inverted (digits_of 256 n)) ≡ negsuc n
whole_number-inverted n =
    ap (λ (l : List ℕ). negsuc (number_from_digits 256 (0 ∷ l))) (inverted_twice (digits_of 256 n) (all_below_base_digits_of 256 n (omega arith)))
    ∙ ap negsuc (number_digits_of 256 n (omega arith))

pub of_negative : (m : ℕ) (z : ℤ) (xs ys zs : List ℕ) → zs ≡ ys ++ inverted (digits_of 256 m) → ys ≡ xs ++ 255 ∷ [] → xs ≡ [] → negsuc m ≡ z → whole_number zs ≡ z
of_negative m z xs ys zs e f g h = let all : zs ≡ 255 ∷ inverted (digits_of 256 m) = rw (e, f, g) (refl {A = List ℕ}) in ap whole_number all ∙ whole_number-inverted m ∙ h

pub of_positive : (m : ℕ) (z : ℤ) (xs ys zs : List ℕ) → zs ≡ ys ++ digits_of 256 m → ys ≡ xs ++ 0 ∷ [] → xs ≡ [] → pos m ≡ z → whole_number zs ≡ z
of_positive m z xs ys zs e f g h = let all : zs ≡ 0 ∷ digits_of 256 m = rw (e, f, g) (refl {A = List ℕ}) in ap whole_number all ∙ whole_number-digits m ∙ h
