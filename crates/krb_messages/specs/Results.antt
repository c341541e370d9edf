-- Octets that are read as none of a type.
use Rattle.std.specs.Prelude.{◌≡◌, ℕ, List}
use Rattle.krb_der_core.specs.Errors.{ValueError}
use Rattle.krb_der_core.specs.declared.der.DerEncode.{Ghosts as EncodingOf}
use Rattle.krb_der_core.specs.declared.error.Asn1DerError.{Asn1DerError}

-- the octets are the encoding of no value
abbrev pub IsNoEncoding : {A : Type 0} → (A → Type 0) → (A → List ℕ) → List ℕ → Type 0
IsNoEncoding {A} is_value enc octets = (v : A) → is_value v → octets ≡ enc v → ⊥

-- the first error of octets that are to be the encoding of one value of the type, all of them
abbrev pub ErrorOf : {A : Type 0} → EncodingOf A → List ℕ → Asn1DerError → Type 0
ErrorOf a = ValueError a.is_value a.enc a.first a.error

-- the octets have an error as the encoding of a value of the first type, and this one, which is the first, as that of the
-- second
abbrev pub ErrorOfBoth : {A B : Type 0} → EncodingOf A → EncodingOf B → List ℕ → Asn1DerError → Type 0
ErrorOfBoth a b octets e = ((d : Asn1DerError) × ErrorOf a octets d) × ErrorOf b octets e
