-- Numbers in base 256.
use Rattle.std.proofs.Common.{◌≡◌, ℕ, zero, suc, ◌+◌, ◌^◌, ◌<◌, ◌≤◌, ◌*◌, List, [], ◌∷◌, length, get_or, take, drop, refl, ap, ◌∙◌, arith}
use Rattle.std.proofs.Math.Nat.{pow-le-pow_right}
use Rattle.std.proofs.lemmas.List.{length-take-le}
use Rattle.std.proofs.lemmas.Grind.{get_or_after_one}
use Rattle.std.specs.Int.Digits.{digits_of, number_from_digits, AllBelowBase}
use Rattle.std.proofs.lemmas.Int.Digits.{number_lt}
use Rattle.krb_der_core.specs.Encoding.{IsOctets}
use Rattle.krb_der_core.specs.Integer.{inverted}
use Rattle.krb_der_core.specs.IntegerLaws.{octets_below, digits_number, inverted_below}

-- with one octet more, of at most eight, a number fits 64 bits
next_fits : (octets : List ℕ) (b : ℕ) → AllBelowBase 256 octets → length octets < 8 → b < 256 → number_from_digits 256 octets * 256 + b < 2 ^ 64
next_fits octets b h few lt =
    let seven : length octets ≤ 7 = omega arith in
    let most : 256 ^ length octets ≤ 256 ^ 7 = pow-le-pow_right (omega arith) seven in
    omega (arith, number_lt 256 octets h)

octets_prefix : (k : ℕ) (octets : List ℕ) → IsOctets octets → IsOctets (take k octets)
octets_prefix zero octets h i = omega arith
octets_prefix (suc k) [] h i = omega arith
octets_prefix (suc k) (d ∷ ds) h zero = h zero
octets_prefix (suc k) (d ∷ ds) h (suc i) = octets_prefix k ds (λ j. h (suc j)) i

pub prefix_fits : (octets : List ℕ) (i n b : ℕ) → IsOctets octets → length octets ≤ 8 → i < length octets
    → n ≡ number_from_digits 256 (take i octets) → b < 256 → n * 256 + b < 2 ^ 64
prefix_fits octets i n b h few lt e hb =
    let prefix = next_fits (take i octets) b (octets_below (take i octets) (octets_prefix i octets h)) (omega (arith, length-take-le i octets (omega arith))) hb in
    omega (arith, prefix, e)

pub length-inverted : (octets : List ℕ) → length (inverted octets) ≡ length octets
length-inverted [] = refl
length-inverted (d ∷ ds) = ap suc (length-inverted ds)

pub inverted_prefix_fits : (octets : List ℕ) (i n b : ℕ) → length octets ≤ 8 → i < length octets
    → n ≡ number_from_digits 256 (inverted (take i octets)) → b < 256 → n * 256 + b < 2 ^ 64
inverted_prefix_fits octets i n b few lt e hb =
    let prefix = next_fits (inverted (take i octets)) b (inverted_below (take i octets)) (omega (arith, length-inverted (take i octets), length-take-le i octets (omega arith))) hb in
    omega (arith, prefix, e)

octets_trailing : (octets : List ℕ) → IsOctets octets → IsOctets (drop 1 octets)
octets_trailing octets h i = rw get_or_after_one (h (1 + i))

digits_number_of : (octets : List ℕ) → IsOctets octets → (get_or octets 0 0 ≡ 0 → ⊥) → digits_of 256 (number_from_digits 256 octets) ≡ octets
digits_number_of [] h first = absurd (first refl)
digits_number_of (d ∷ ds) h first = digits_number d ds (omega (arith, first)) (octets_below (d ∷ ds) h)

-- the octets after the first, with no leading zero, are the digits of their number
pub digits_read : (input : List ℕ) (j k n : ℕ) → j ≡ k → IsOctets input → (get_or (take j (drop 1 input)) 0 0 ≡ 0 → ⊥)
    → n ≡ number_from_digits 256 (take j (drop 1 input)) → digits_of 256 n ≡ take k (drop 1 input)
digits_read input j k n same h first e =
    ap (digits_of 256) e ∙ digits_number_of (take j (drop 1 input)) (octets_prefix j (drop 1 input) (octets_trailing input h)) first ∙ ap (λ (m : ℕ). take m (drop 1 input)) same
