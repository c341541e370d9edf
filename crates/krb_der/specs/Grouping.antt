-- What groups of fields keep.
use Rattle.std.specs.Prelude.{◌≡◌, ℕ, Bool, List, ◌++◌, Result, MatchResult}
use Rattle.krb_der_core.specs.declared.error.Asn1DerError.{Asn1DerError}
use Rattle.krb_der_core.specs.declared.error.Asn1DerError.TheVariants as errors
use Rattle.krb_der_core.specs.Encoding.{BeginsWith}

-- Fields with octets after them that begin so begin so.
abbrev pub BeginSo : {A : Type 0} → (A → Type 0) → (A → List ℕ) → ((ℕ → Bool) → ℕ → Bool) → Type 0
BeginSo {A} are_values octets begins = (follow : ℕ → Bool) (v : A) (x : List ℕ) → are_values v → BeginsWith follow x → BeginsWith (begins follow) (octets v ++ x)

-- Where the fields are distinguished from what follows, the octets determine the fields and what follows.
abbrev pub OneReading : {A : Type 0} → ((ℕ → Bool) → Type 0) → (A → Type 0) → (A → List ℕ) → Type 0
OneReading {A} distinguished are_values octets =
    (follow : ℕ → Bool) → distinguished follow → (v w : A) (x y : List ℕ) → are_values v → are_values w → BeginsWith follow x → BeginsWith follow y → octets v ++ x ≡ octets w ++ y → (v ≡ w) × (x ≡ y)

-- Where fields are before octets that are distinguished from them, those fields are read, unless an allocation fails.
abbrev pub ReadsFields : {A : Type 0} → ((ℕ → Bool) → Type 0) → (A → Type 0) → (A → List ℕ) → List ℕ → Result (A × ℕ) Asn1DerError → Type 0
ReadsFields {A} distinguished are_values octets input r =
    (follow : ℕ → Bool) → distinguished follow → (w : A) (y : List ℕ) → are_values w → BeginsWith follow y → input ≡ octets w ++ y → MatchResult r (λ p. p.0 ≡ w) (λ e. e ≡ errors.OutOfMemory)

-- Fields that are distinguished from what follows them end where it begins so.
abbrev pub DistinguishedEnds : {A : Type 0} → ((ℕ → Bool) → Type 0) → (A → Type 0) → (A → List ℕ → Type 0) → Type 0
DistinguishedEnds {A} distinguished are_values ends = (follow : ℕ → Bool) → distinguished follow → (v : A) (x : List ℕ) → are_values v → BeginsWith follow x → ends v x
