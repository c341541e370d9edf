-- Suites, by the numbers of their encryption types (RFC 3961, 8).
use Rattle.std.specs.Prelude.{◌≡◌, ◌⊎◌, ℤ, List, Any}
use Rattle.krb_crypto.specs.Suites.{NoSuite}
use Rattle.krb_c_calls.specs.Numbers.{etype_number}
use Rattle.krb_c_calls.specs.declared.call_error.CallError.{CallError}
use Rattle.krb_c_calls.specs.declared.call_error.CallError.TheVariants as refusals

-- an allocation failed, or a number is that of no suite (Number)
abbrev pub IsNoSuite : ℤ → CallError → Type 0
IsNoSuite number e = (e ≡ refusals.Memory) ⊎ ((e ≡ refusals.Number) × NoSuite etype_number number)

-- or one of these is
abbrev pub AreNoSuites : List ℤ → CallError → Type 0
AreNoSuites numbers e = (e ≡ refusals.Memory) ⊎ ((e ≡ refusals.Number) × Any (NoSuite etype_number) numbers)
