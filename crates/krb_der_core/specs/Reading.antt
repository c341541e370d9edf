-- What a reader returns.
use Rattle.std.specs.Prelude.{◌≡◌, ℕ, ◌<◌, ◌^◌, List, ◌++◌, length, drop}
use Rattle.krb_der_core.specs.declared.error.Asn1DerError.{Asn1DerError}
use Rattle.krb_der_core.specs.declared.error.Asn1DerError.TheVariants as errors
use Rattle.krb_der_core.specs.Tlv.{len, tlv}

-- ---- the start of an input

-- p is at the start of the input, and has n octets
pub record TakesPrefix (p : List ℕ) (n : ℕ) (input : List ℕ) : Type 0 where
  pub count : n ≡ length p
  pub prefix : input ≡ p ++ drop n input

-- nothing of P is at the start of the input
abbrev pub NoPrefix : (List ℕ → Type 0) → List ℕ → Type 0
NoPrefix P input = (b rest : List ℕ) → P b → input ≡ b ++ rest → ⊥

-- the input is no prefix of anything of P
abbrev pub NoBeginning : (List ℕ → Type 0) → List ℕ → Type 0
NoBeginning P input = (b rest : List ℕ) → P b → b ≡ input ++ rest → ⊥

-- When a reader of a prefix may return an error: on allocation failure always; because octets are missing only where nothing of P
-- is at the start; another error only where the input is no prefix of anything of P either. No reader or writer fails.
abbrev pub RejectsPrefix : (List ℕ → Type 0) → List ℕ → Asn1DerError → Type 0
RejectsPrefix P input errors.OutOfMemory = Unit {0}
RejectsPrefix P input errors.TruncatedData = NoPrefix P input
RejectsPrefix P input errors.InvalidData = NoPrefix P input × NoBeginning P input
RejectsPrefix P input errors.UnsupportedValue = NoPrefix P input × NoBeginning P input
RejectsPrefix P input (errors.Io e) = ⊥

-- The encodings of the values of a type. Their lengths are below 2^64: from there on the length octets are nine, and
-- those of a proper prefix are rejected as a form that is not supported.
abbrev pub Encodings : {A : Type 0} → (A → Type 0) → (A → List ℕ) → List ℕ → Type 0
Encodings {A} is_value enc b = (v : A) × is_value v × (length b < 2 ^ 64) × (b ≡ enc v)

-- length octets, of lengths below 2^64
abbrev pub Lengths : List ℕ → Type 0
Lengths b = (n : ℕ) × (n < 2 ^ 64) × (b ≡ len n)

-- elements of tag t, of fewer than 2^64 octets
abbrev pub Elements : ℕ → List ℕ → Type 0
Elements t b = (c : List ℕ) × (length b < 2 ^ 64) × (b ≡ tlv t c)

-- ---- the whole input

-- When a reader of the whole input may return an error: on allocation failure always; else only where no value has these octets.
abbrev pub RejectsAll : {A : Type 0} → (A → Type 0) → (A → List ℕ) → List ℕ → Asn1DerError → Type 0
RejectsAll is_value octets input errors.OutOfMemory = Unit {0}
RejectsAll {A} is_value octets input errors.TruncatedData = (v : A) → is_value v → input ≡ octets v → ⊥
RejectsAll {A} is_value octets input errors.InvalidData = (v : A) → is_value v → input ≡ octets v → ⊥
RejectsAll {A} is_value octets input errors.UnsupportedValue = (v : A) → is_value v → input ≡ octets v → ⊥
RejectsAll is_value octets input (errors.Io e) = ⊥
