-- The seconds of a FILETIME.
use Rattle.std.proofs.Common.{◌≡◌, ℕ, ◌/◌, arith, ℤ, pos, ◌-ℤ◌}
use Rattle.jiff_core.proofs.SignedLemmas.{signed_arith}
use Rattle.krb_der_core.specs.GeneralizedTime.{Time}
use Rattle.krb_types.specs.Times.{unix_seconds}
use Rattle.krb_pac_contents.specs.Times.{IsTimeOf}

-- a time that a number stands for has the whole seconds of the number
pub seconds_of_time : (n : ℕ) (t : Time) (units : ℕ) (s : ℤ) → s ≡ pos (n / 10_000_000) -ℤ pos 11_644_473_600 → IsTimeOf n t units → unix_seconds t ≡ s
seconds_of_time n t units s e h = omega (arith, signed_arith, e, h.1, h.2)
