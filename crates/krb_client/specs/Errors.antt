-- Why no request is made.
use Rattle.std.specs.Prelude.{◌≡◌, ◌⊎◌, ℕ, ℤ, ◌<◌, ◌≤◌}
use Rattle.krb_build.specs.Times.{IsNoTime}
use Rattle.krb_client.specs.declared.requests.error.RequestError.{RequestError}
use Rattle.krb_client.specs.declared.requests.error.RequestError.TheVariants as errors

-- an allocation failed, or it is for this reason
abbrev pub IsMemoryOr : RequestError → Type 0 → Type 0
IsMemoryOr e why = (e ≡ errors.OutOfMemory) ⊎ why

-- why no time is at these seconds and microseconds: the microseconds first
abbrev pub IsTimeError : ℤ → ℕ → RequestError → Type 0
IsTimeError seconds microseconds e =
    ((e ≡ errors.Microseconds) × (999999 < microseconds))
    ⊎ ((e ≡ errors.Time) × (microseconds ≤ 999999) × IsNoTime seconds)
