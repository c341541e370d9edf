-- The seconds of a FILETIME.
use Rattle.std.proofs.Common.{◌≡◌, ℕ, ◌/◌, ◌%◌, arith, ℤ, pos, ◌-ℤ◌, Bool, true, false, MatchBool}
use Rattle.jiff_core.proofs.SignedLemmas.{signed_arith}
use Rattle.krb_accept.specs.Pac.{IsTimed}

pub timed_of : (n : ℕ) (s u : ℤ) → u ≡ pos (n / 10_000_000) -ℤ pos 11_644_473_600 → n % 10_000_000 ≡ 0 → u ≡ s → IsTimed n s
timed_of n s u is whole same = (n / 10_000_000, omega (arith, whole), omega (arith, signed_arith, is, same))

pub of_timed : (n : ℕ) (s u : ℤ) → u ≡ pos (n / 10_000_000) -ℤ pos 11_644_473_600 → IsTimed n s → u ≡ s
of_timed n s u is h = omega (arith, signed_arith, is, h.1, h.2)

-- a part of a second is no whole time
pub not_timed : (n : ℕ) (s : ℤ) → (n % 10_000_000 ≡ 0 → ⊥) → IsTimed n s → ⊥
not_timed n s is_not h = is_not (omega (arith, h.1))

pub match_so : (b : Bool) {P Q : Type 0} → (P → Q) → (Q → P) → MatchBool b P (P → ⊥) → MatchBool b Q (Q → ⊥)
match_so true f g h = f h
match_so false f g h = λ q. h (g q)
