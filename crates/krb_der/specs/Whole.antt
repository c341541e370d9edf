-- What `from_bytes` returns.
use Rattle.std.specs.Prelude.{◌≡◌, ℕ, ◌<◌, ◌^◌, ◌⊎◌, List, ◌++◌, length, Result, MatchResult}
use Rattle.krb_der_core.specs.declared.der.DerEncode.{Ghosts as EncodingOf}
use Rattle.krb_der_core.specs.declared.error.Asn1DerError.{Asn1DerError}
use Rattle.krb_der_core.specs.declared.error.Asn1DerError.TheVariants as errors
use Rattle.krb_der_core.specs.Errors.{ValueError}

-- the result is this value, unless an allocation fails
abbrev pub Answers : {A : Type 0} → Result A Asn1DerError → A → Type 0
Answers r v = MatchResult r (λ w. w ≡ v) (λ e. e ≡ errors.OutOfMemory)

-- the result is this error, unless an allocation fails
abbrev pub FailsWith : {A : Type 0} → Result A Asn1DerError → Asn1DerError → Type 0
FailsWith r error = MatchResult r (λ w. ⊥) (λ e. (e ≡ error) ⊎ (e ≡ errors.OutOfMemory))

-- the encoding of a value is read as that value
abbrev pub ReadsValue : {A : Type 0} → (A → Type 0) → (A → List ℕ) → List ℕ → Result A Asn1DerError → Type 0
ReadsValue {A} is_value enc input r = (v : A) → is_value v → input ≡ enc v → Answers r v

-- A proper prefix of an encoding is `TruncatedData`. The encoding has fewer than 2^64 octets: from there on the
-- length octets are nine, and those of a proper prefix are rejected as a form that is not supported.
abbrev pub ReportsCut : {A : Type 0} → (A → Type 0) → (A → List ℕ) → List ℕ → Result A Asn1DerError → Type 0
ReportsCut {A} is_value enc input r =
    (v : A) (rest : List ℕ) → is_value v → 0 < length rest → length (enc v) < 2 ^ 64 → enc v ≡ input ++ rest → FailsWith r errors.TruncatedData

-- an encoding with trailing octets is `InvalidData`
abbrev pub RejectsMore : {A : Type 0} → (A → Type 0) → (A → List ℕ) → List ℕ → Result A Asn1DerError → Type 0
RejectsMore {A} is_value enc input r = (v : A) (rest : List ℕ) → is_value v → 0 < length rest → input ≡ enc v ++ rest → FailsWith r errors.InvalidData

-- no reader or writer failed
abbrev pub NoDevice : Asn1DerError → Type 0
NoDevice errors.OutOfMemory = Unit {0}
NoDevice errors.TruncatedData = Unit {0}
NoDevice errors.InvalidData = Unit {0}
NoDevice errors.UnsupportedValue = Unit {0}
NoDevice (errors.Io e) = ⊥

-- the octets are the one encoding of this value (X.690, 10)
abbrev pub Encodes : {A : Type 0} → EncodingOf A → List ℕ → A → Type 0
Encodes t octets v = t.is_value v × (octets ≡ t.enc v)

-- Why octets are the encoding of no value of the type: their first error, from the left. That of a proper prefix of
-- an encoding, which has fewer than 2^64 octets, is that octets are missing; that of an encoding with trailing octets
-- is invalid data.
pub record IsNotRead {A : Type 0} (t : EncodingOf A) (octets : List ℕ) (why : Asn1DerError) : Type 0 where
  pub none : (v : A) → Encodes t octets v → ⊥
  pub first_error : ValueError t.is_value t.enc t.first t.error octets why
  pub cut : (v : A) (rest : List ℕ) → t.is_value v → 0 < length rest → length (t.enc v) < 2 ^ 64
      → t.enc v ≡ octets ++ rest → why ≡ errors.TruncatedData
  pub more : (v : A) (rest : List ℕ) → t.is_value v → 0 < length rest → octets ≡ t.enc v ++ rest
      → why ≡ errors.InvalidData
