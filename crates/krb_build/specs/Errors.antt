-- Why no value is made.
use Rattle.std.specs.Prelude.{◌≡◌, ◌⊎◌, ◌≤◌, ℕ, ℤ, List, Any}
use Rattle.krb_build.specs.declared.error.BuildError.{BuildError}
use Rattle.krb_build.specs.declared.error.BuildError.TheVariants as errors
use Rattle.krb_build.specs.Flags.{AreFlags}
use Rattle.krb_build.specs.Times.{IsNoTime}
use Rattle.krb_der_core.specs.BitString.{Bits}

-- an allocation failed, or it is for this reason
abbrev pub IsMemoryOr : BuildError → Type 0 → Type 0
IsMemoryOr e why = (e ≡ errors.OutOfMemory) ⊎ why

-- a number is of no flag
abbrev pub IsFlagError : List ℕ → BuildError → Type 0
IsFlagError numbers e = (e ≡ errors.FlagNumber) × Any (λ n. 32 ≤ n) numbers

-- why there is no AS-REQ: an option has no number of 0 to 31; else there is no such time
abbrev pub IsRequestError : List ℕ → ℤ → BuildError → Type 0
IsRequestError options till e =
    IsFlagError options e
    ⊎ (((bits : Bits) × AreFlags options bits) × (e ≡ errors.Time) × IsNoTime till)
