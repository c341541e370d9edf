-- What a format writes of a code.
use Rattle.std.proofs.Common.{◌≡◌, ℕ, zero, suc, ◌-◌, ◌/◌, ◌%◌, ◌^◌, ◌<◌, ◌≤◌, eqb, eq-eqb, true, false, Bool, cond, List, [], ◌∷◌, ◌++◌, map, length, refl, sym, ap, ◌∙◌, append_assoc, arith, inl, inr}
use Rattle.std.proofs.lemmas.Bool.{cases_lt, ne_eqb}
use Rattle.std.proofs.lemmas.List.{append-nil, length-append}
use Rattle.std.proofs.lemmas.Fmt.{hex_byte}
use Rattle.std.proofs.lemmas.Int.Digits.{digits_of_step}
use Rattle.std.specs.Int.Digits.{digits_of}
use Rattle.std.specs.Fmt.{digits, digits_onto, format_spec, padded_integral, char_count}
use Rattle.krb_messages.specs.CodeText.{hexadecimal_digit, at_least_two}

module _ (n : ℕ) (acc : List ℕ) where
  by_test : (k : ℕ) (b : Bool) → eqb (n / 16) 0 ≡ b → digits_onto (suc k) 16 true n acc ≡ cond b (hexadecimal_digit (n % 16) ∷ acc) (digits_onto k 16 true (n / 16) (hexadecimal_digit (n % 16) ∷ acc))
  by_test k b e = ap (λ (t : Bool). cond t (hexadecimal_digit (n % 16) ∷ acc) (digits_onto k 16 true (n / 16) (hexadecimal_digit (n % 16) ∷ acc))) e

map_trailing : (f : ℕ → ℕ) (xs ys : List ℕ) → map f (xs ++ ys) ≡ map f xs ++ map f ys
map_trailing f [] ys = refl
map_trailing f (x ∷ xs) ys = ap (λ (l : List ℕ). f x ∷ l) (map_trailing f xs ys)

length_of_map : (f : ℕ → ℕ) (xs : List ℕ) → length (map f xs) ≡ length xs
length_of_map f [] = refl
length_of_map f (x ∷ xs) = ap suc (length_of_map f xs)

one_digit : (n : ℕ) → 0 < n → n < 16 → digits_of 16 n ≡ n ∷ []
one_digit n some lt =
    let low : n % 16 ≡ n = omega arith in
    let high : n / 16 ≡ 0 = omega arith in
    digits_of_step 16 n (omega arith) some ∙ ap (λ (h : ℕ). digits_of 16 h ++ (n % 16) ∷ []) high ∙ ap (λ (d : ℕ). d ∷ []) low

-- the last digit, and those before it
digits_trailing : (n : ℕ) (acc : List ℕ) → 0 < n → map hexadecimal_digit (digits_of 16 n) ++ acc ≡ map hexadecimal_digit (digits_of 16 (n / 16)) ++ hexadecimal_digit (n % 16) ∷ acc
digits_trailing n acc some =
    ap (λ (l : List ℕ). map hexadecimal_digit l ++ acc) (digits_of_step 16 n (omega arith) some)
    ∙ ap (λ (l : List ℕ). l ++ acc) (map_trailing hexadecimal_digit (digits_of 16 (n / 16)) ((n % 16) ∷ []))
    ∙ append_assoc (map hexadecimal_digit (digits_of 16 (n / 16))) (hexadecimal_digit (n % 16) ∷ []) acc

digits_written : (k n : ℕ) (acc : List ℕ) → 0 < n → n < 16 ^ k → digits_onto k 16 true n acc ≡ map hexadecimal_digit (digits_of 16 n) ++ acc
digits_written zero n acc some lt = absurd (omega arith)
digits_written (suc k) n acc some lt =
    elim (cases_lt n 16) [
      | inl one ↦
          (let low : n % 16 ≡ n = omega arith in
          by_test n acc k true (eq-eqb (n / 16) 0 (omega arith)) ∙ ap (λ (d : ℕ). hexadecimal_digit d ∷ acc) low ∙ ap (λ (l : List ℕ). map hexadecimal_digit l ++ acc) (sym (one_digit n some one)))
      | inr more ↦
          (by_test n acc k false (ne_eqb (n / 16) 0 (λ z. omega arith))
          ∙ digits_written k (n / 16) (hexadecimal_digit (n % 16) ∷ acc) (omega arith) (omega arith)
          ∙ sym (digits_trailing n acc some))
    ]

unpacked : (n : ℕ) → digits 16 true n ≡ digits_onto 64 16 true n []
unfolding digits
unpacked n = refl

all_digits : (n : ℕ) → 0 < n → n < 2 ^ 32 → digits 16 true n ≡ map hexadecimal_digit (digits_of 16 n)
all_digits n some lt = unpacked n ∙ digits_written 64 n [] some (omega arith) ∙ append-nil (map hexadecimal_digit (digits_of 16 n))

at_least_two_of_two : (l : List ℕ) → 2 ≤ length l → at_least_two l ≡ l
at_least_two_of_two [] h = absurd (omega arith)
at_least_two_of_two (a ∷ []) h = absurd (omega arith)
at_least_two_of_two (a ∷ b ∷ l) h = refl

-- two digits are written as they are
long_written : (l : List ℕ) → 2 ≤ length l → padded_integral (format_spec 32 0 4 2 (2 ^ 64 - 1)) false [] l ≡ l
unfolding padded_integral char_count
long_written l h = let none : 2 - length l - 0 - 0 ≡ 0 = omega arith in rw none (append-nil l)

two_or_more : (n : ℕ) → 16 ≤ n → 2 ≤ length (digits_of 16 n)
two_or_more n more =
    let last = length-append (digits_of 16 (n / 16)) ((n % 16) ∷ []) in
    let prefix = length-append (digits_of 16 (n / 16 / 16)) ((n / 16 % 16) ∷ []) in
    omega (arith, ap length (digits_of_step 16 n (omega arith) (omega arith)), ap length (digits_of_step 16 (n / 16) (omega arith) (omega arith)))

short_written : (n : ℕ) → n < 16 → hexadecimal_digit (n / 16) ∷ hexadecimal_digit (n % 16) ∷ [] ≡ map hexadecimal_digit (at_least_two (digits_of 16 n))
short_written zero lt = refl
short_written (suc m) lt =
    let n = suc m in
    let low : n % 16 ≡ n = omega arith in
    let high : n / 16 ≡ 0 = omega arith in
    rw (one_digit n (omega arith) lt, low, high) refl

pub code_written : (n : ℕ) → n < 2 ^ 32 → padded_integral (format_spec 32 0 4 2 (2 ^ 64 - 1)) false [] (digits 16 true n) ≡ map hexadecimal_digit (at_least_two (digits_of 16 n))
code_written n lt =
    elim (cases_lt n 16) [
      | inl small ↦ hex_byte true n (omega arith) ∙ short_written n small
      | inr large ↦
          (let l = digits_of 16 n in
          ap (λ (t : List ℕ). padded_integral (format_spec 32 0 4 2 (2 ^ 64 - 1)) false [] t) (all_digits n (omega arith) lt)
          ∙ long_written (map hexadecimal_digit l) (omega (arith, length_of_map hexadecimal_digit l, two_or_more n large))
          ∙ ap (map hexadecimal_digit) (sym (at_least_two_of_two l (two_or_more n large))))
    ]
