-- Why octets are not taken.
use Rattle.std.specs.Prelude.{◌≡◌, ◌⊎◌}
use Rattle.krb_c_calls.specs.declared.call_error.CallError.{CallError}
use Rattle.krb_c_calls.specs.declared.call_error.CallError.TheVariants as refusals

-- an allocation failed, or they are Invalid, for this reason
abbrev pub IsMemoryOrInvalid : Type 0 → CallError → Type 0
IsMemoryOrInvalid why e = (e ≡ refusals.Memory) ⊎ ((e ≡ refusals.Invalid) × why)
