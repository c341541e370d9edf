-- What is asked of octets that are to be a message, and why they are refused (RFC 4120, 5 and appendix A; X.690, 10).
use Rattle.std.specs.Prelude.{◌≡◌, ◌⊎◌, ℕ, List}
use Rattle.krb_der_core.specs.declared.der.DerEncode.{Ghosts as EncodingOf}
use Rattle.krb_der_core.specs.declared.error.Asn1DerError.{Asn1DerError}
use Rattle.krb_der.specs.Whole.{IsNotRead, NoDevice}
use Rattle.krb_c_calls.specs.Statuses.{der_status}

-- the octets are the one encoding of a value of the type, and of none
abbrev pub IsEncoding : {A : Type 0} → EncodingOf A → List ℕ → Type 0
IsEncoding {A} t octets = (v : A) × t.is_value v × (octets ≡ t.enc v)

-- memory was wanting (2), or the octets are no encoding, for the reason that the status names
abbrev pub RefusesReading : {A : Type 0} → EncodingOf A → List ℕ → ℕ → Type 0
RefusesReading t octets status = (status ≡ 2) ⊎ ((why : Asn1DerError) × (status ≡ der_status why) × IsNotRead t octets why × NoDevice why)

-- the octets are an encoding (0), or they are refused
abbrev pub IsReading : {A : Type 0} → EncodingOf A → List ℕ → ℕ → Type 0
IsReading t octets status = ((status ≡ 0) × IsEncoding t octets) ⊎ RefusesReading t octets status
