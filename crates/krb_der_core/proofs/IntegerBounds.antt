-- The shortest octets of a number are at most eight exactly where it fits 64 bits.
use Rattle.std.proofs.Common.{◌≡◌, ℕ, zero, suc, ◌+◌, ◌*◌, ◌^◌, ◌<◌, ◌≤◌, List, [], ◌∷◌, length, get_or, ℤ, pos, negsuc, FitsSigned, refl, sym, ap, ◌∙◌, arith}
use Rattle.std.proofs.Math.Nat.{pow-suc, pow-le-pow_right, mul-le-mul}
use Rattle.std.specs.Int.{w64}
use Rattle.std.specs.Int.Digits.{number_from_digits, number_from_digits_after, AllBelowBase}
use Rattle.std.proofs.lemmas.Int.Digits.{number_after_ge, number_after_lt}
use Rattle.krb_der_core.specs.Integer.{unsigned, inverted, shortest, whole_number, IsShortest}
use Rattle.krb_der_core.specs.IntegerLaws.{unsigned_plain, shortest_is, number_of_shortest, number_small, number_large}
use Rattle.krb_der_core.proofs.Digits.{length-inverted}

-- k octets more make a number at least 256 ^ k times as large
grows : (k n : ℕ) (ds : List ℕ) → k ≤ length ds → n * 256 ^ k ≤ number_from_digits_after 256 n ds
grows zero n ds h = omega (arith, number_after_ge 256 n ds (omega arith))
grows (suc k) n [] h = absurd (omega arith)
grows (suc k) n (d ∷ ds) h = rw pow-suc (omega (arith, grows k (n * 256 + d) ds (omega arith)))

long_large : (b : ℕ) (bs : List ℕ) → IsShortest (b ∷ bs) → 8 ≤ length bs → 2 ^ 63 ≤ number_from_digits 256 (b ∷ bs)
long_large zero [] s le = absurd (omega arith)
long_large zero (c ∷ cs) s le =
    let first : 128 ≤ c = s.positive (omega arith) refl in
    omega (arith, grows 7 ((0 * 256 + 0) * 256 + c) cs (omega arith))
long_large (suc b) bs s le = omega (arith, grows 8 (0 * 256 + suc b) bs le)

short_small : (b : ℕ) (bs : List ℕ) → b < 128 → AllBelowBase 256 bs → length bs ≤ 7 → number_from_digits 256 (b ∷ bs) < 2 ^ 63
short_small b bs lt h le =
    let first : 0 * 256 + b + 1 ≤ 128 = omega arith in
    let most : 256 ^ length bs ≤ 256 ^ 7 = pow-le-pow_right (omega arith) le in
    let both : (0 * 256 + b + 1) * 256 ^ length bs ≤ 128 * 256 ^ 7 = mul-le-mul first most in
    omega (arith, number_after_lt 256 (0 * 256 + b) bs h)

unsigned_long : (n : ℕ) → 8 < length (unsigned n) → 2 ^ 63 ≤ n
unsigned_long n h =
    let p = unsigned_plain n in
    omega (arith, long_large p.b p.bs p.short (omega (arith, ap length p.is)), p.number)

unsigned_short : (n : ℕ) → length (unsigned n) ≤ 8 → n < 2 ^ 63
unsigned_short n h =
    let p = unsigned_plain n in
    omega (arith, short_small p.b p.bs p.small p.below.1 (omega (arith, ap length p.is)), p.number)

too_long : (z : ℤ) → 8 < length (shortest z) → FitsSigned w64 z → ⊥
too_long (pos n) h f = omega (arith, unsigned_long n h, f.sfits)
too_long (negsuc n) h f = omega (arith, unsigned_long n (omega (arith, length-inverted (unsigned n))), f.sfits)

short_fits : (z : ℤ) → length (shortest z) ≤ 8 → FitsSigned w64 z
short_fits (pos n) h = record { sfits = unsigned_short n h }
short_fits (negsuc n) h = record { sfits = unsigned_short n (omega (arith, length-inverted (unsigned n))) }

small_first : (c : List ℕ) → get_or c 0 0 < 128 → whole_number c ≡ pos (number_from_digits 256 c)
small_first [] h = refl
small_first (b ∷ bs) h = number_small b bs h

large_first : (c : List ℕ) → 128 ≤ get_or c 0 0 → whole_number c ≡ negsuc (number_from_digits 256 (inverted c))
large_first [] h = absurd (omega arith)
large_first (b ∷ bs) h = number_large b bs h

pub some_octet : (z : ℤ) (c : List ℕ) → c ≡ shortest z → 0 < length c
some_octet z c e = omega (arith, ap length e, (shortest_is z).some)

pub more_than_eight : (z : ℤ) (c : List ℕ) → c ≡ shortest z → 8 < length c → FitsSigned w64 z → ⊥
more_than_eight z c e h = too_long z (omega (arith, ap length e))

-- the number z is n, which fits 64 bits
pub record IsNatural (z : ℤ) (n : ℕ) : Type 0 where
  pub number : z ≡ pos n
  pub fits : n < 2 ^ 63

-- the number z is below zero, and n, which fits 64 bits, is it with each bit the other way
pub record IsInverted (z : ℤ) (n : ℕ) : Type 0 where
  pub number : z ≡ negsuc n
  pub fits : n < 2 ^ 63

at_most_eight : (z : ℤ) (c : List ℕ) → c ≡ shortest z → length c ≤ 8 → FitsSigned w64 z
at_most_eight z c e few = short_fits z (omega (arith, ap length e))

natural_fits : (z : ℤ) (n : ℕ) → z ≡ pos n → FitsSigned w64 z → n < 2 ^ 63
natural_fits z n e f = let g : FitsSigned w64 (pos n) = rw e at f in g.sfits

inverted_fits : (z : ℤ) (n : ℕ) → z ≡ negsuc n → FitsSigned w64 z → n < 2 ^ 63
inverted_fits z n e f = let g : FitsSigned w64 (negsuc n) = rw e at f in g.sfits

pub is_natural : (z : ℤ) (c : List ℕ) (n : ℕ) → c ≡ shortest z → length c ≤ 8 → get_or c 0 0 < 128 → n ≡ number_from_digits 256 c → IsNatural z n
is_natural z c n e few small same =
    let number : z ≡ pos n = sym (number_of_shortest z) ∙ ap whole_number (sym e) ∙ small_first c small ∙ ap pos (sym same) in
    record { number = number; fits = natural_fits z n number (at_most_eight z c e few) }

pub is_inverted : (z : ℤ) (c : List ℕ) (n : ℕ) → c ≡ shortest z → length c ≤ 8 → 128 ≤ get_or c 0 0 → n ≡ number_from_digits 256 (inverted c) → IsInverted z n
is_inverted z c n e few large same =
    let number : z ≡ negsuc n = sym (number_of_shortest z) ∙ ap whole_number (sym e) ∙ large_first c large ∙ ap negsuc (sym same) in
    record { number = number; fits = inverted_fits z n number (at_most_eight z c e few) }
