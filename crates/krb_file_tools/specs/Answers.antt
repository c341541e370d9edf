-- What calls answer that may run out of memory, and what octets are the encoding of.
use Rattle.std.specs.Prelude.{◌≡◌, ◌⊎◌, ℕ, List, Result, Ok, Err}
use Rattle.krb_der_core.specs.declared.error.Asn1DerError.{Asn1DerError}
use Rattle.krb_file_tools.specs.declared.convert.error.ConvertError.{ConvertError}
use Rattle.krb_file_tools.specs.declared.convert.error.ConvertError.TheVariants as errors
use Rattle.krb_file_tools.specs.declared.convert.form.Form.{Form}
use Rattle.krb_file_tools.specs.declared.convert.form.Form.TheVariants as form

-- an allocation failed, or it is for this reason
abbrev pub IsMemoryOr : ConvertError → Type 0 → Type 0
IsMemoryOr e why = (e ≡ errors.OutOfMemory) ⊎ why

-- what a call returned, seen by view, is what is wanted, a value or the first broken rule; or an allocation failed
abbrev pub Answers : {X Y : Type 0} → (X → Y) → Result X ConvertError → Result Y ConvertError → Type 0
Answers view (Ok x) wanted = wanted ≡ Ok (view x)
Answers view (Err e) wanted = IsMemoryOr e (wanted ≡ Err e)

-- the octets are the encoding of this value
abbrev pub IsOf : {A : Type 0} → (A → Type 0) → (A → List ℕ) → List ℕ → A → Type 0
IsOf is_value enc octets v = is_value v × (octets ≡ enc v)

-- the error of octets that are no encoding
abbrev pub refusal_of : Form → Asn1DerError → ConvertError
refusal_of form.Kirbi why = errors.Kirbi why
refusal_of form.Part why = errors.Part why
refusal_of form.Ticket why = errors.Ticket why

-- the octets are no encoding, and this is their first error
abbrev pub IsNot : Form → (Asn1DerError → Type 0) → ConvertError → Type 0
IsNot form first e = (why : Asn1DerError) × (e ≡ refusal_of form why) × first why
