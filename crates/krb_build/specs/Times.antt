-- Times to the microsecond (RFC 4120, 5.2.3 and 5.2.4).
use Rattle.std.specs.Prelude.{◌≡◌, ◌≢◌, ◌<◌, ◌≤◌, ◌⊎◌, ℕ, ℤ, pos}
use Rattle.krb_der_core.specs.GeneralizedTime.{Time, IsRealTime}
use Rattle.krb_types.specs.Times.{unix_seconds}
use Rattle.krb_build.specs.declared.error.BuildError.{BuildError}
use Rattle.krb_build.specs.declared.error.BuildError.TheVariants as errors

-- 0 to 999999
abbrev pub IsMicroseconds : ℤ → Type 0
IsMicroseconds z = (n : ℕ) × (n ≤ 999999) × (z ≡ pos n)

-- no time of a KerberosTime is at these seconds
abbrev pub IsNoTime : ℤ → Type 0
IsNoTime seconds = (t : Time) → IsRealTime t → unix_seconds t ≢ seconds

-- this time is at these seconds since 1 January 1970
abbrev pub IsTime : ℤ → Time → Type 0
IsTime seconds time = IsRealTime time × (unix_seconds time ≡ seconds)

-- this time with these microseconds, 0 to 999999
abbrev pub IsTimeAt : ℤ → ℕ → Time → ℤ → Type 0
IsTimeAt seconds microseconds time number = IsTime seconds time × (microseconds ≤ 999999) × (number ≡ pos microseconds)

-- why there is no such time: the microseconds first
abbrev pub IsTimeError : ℤ → ℕ → BuildError → Type 0
IsTimeError seconds microseconds e =
    ((e ≡ errors.Microseconds) × (999999 < microseconds))
    ⊎ ((e ≡ errors.Time) × (microseconds ≤ 999999) × IsNoTime seconds)
