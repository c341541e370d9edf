-- An encoding with a cipher's padding after it (RFC 3961, 5.3).
use Rattle.std.specs.Prelude.{◌≡◌, ◌⊎◌, ℕ, ◌<◌, Bool, List, ◌++◌, replicate}
use Rattle.krb_der_core.specs.declared.error.Asn1DerError.{Asn1DerError}
use Rattle.krb_der_core.specs.declared.error.Asn1DerError.TheVariants.{InvalidData}
use Rattle.krb_crypto_message.specs.Sealing.{Opens}
use Rattle.krb_der_core.specs.Errors.{PrefixError, OrMemory}
use Rattle.krb_der_core.specs.Reading.{RejectsPrefix}

-- fewer than size octets, all zero
abbrev pub IsFewZeros : ℕ → List ℕ → Type 0
IsFewZeros size octets = (zeros : ℕ) × (zeros < size) × (octets ≡ replicate zeros 0)

-- the octets begin with one of P, and the trailing octets are not fewer than size zeros
abbrev pub HasMore : (List ℕ → Type 0) → ℕ → List ℕ → Type 0
HasMore P size octets = (prefix rest : List ℕ) × P prefix × (octets ≡ prefix ++ rest) × (IsFewZeros size rest → ⊥)

-- The errors of octets that should be one of P and fewer than size zeros: those of a reader of a prefix, and invalid data where
-- more octets trail.
abbrev pub RejectsPadded : (List ℕ → Type 0) → ℕ → List ℕ → Asn1DerError → Type 0
RejectsPadded P size octets e = RejectsPrefix P octets e ⊎ ((e ≡ InvalidData) × HasMore P size octets)

-- The first error of octets that should be one of P and fewer than size zeros: that of the leading element, whose tag is to be
-- among the first octets and whose content has this error, and else invalid data where more octets trail.
abbrev pub PaddedError : (List ℕ → Type 0) → (ℕ → Bool) → (ℕ → List ℕ → Asn1DerError → Type 0) → ℕ → List ℕ → Asn1DerError → Type 0
PaddedError P first error size octets e = PrefixError first error octets e ⊎ ((e ≡ InvalidData) × HasMore P size octets)

-- the octets of which these are given are opened to padded ones, and this is why those are rejected
abbrev pub RejectsOpened : (List ℕ → Type 0) → ℕ → (List ℕ → Type 0) → Asn1DerError → Type 0
RejectsOpened P size given e = (padded : List ℕ) × Opens size given padded × RejectsPadded P size padded e

-- and it is their first error, or that of an allocation
abbrev pub HasFirstError : (List ℕ → Type 0) → (ℕ → Bool) → (ℕ → List ℕ → Asn1DerError → Type 0) → ℕ → (List ℕ → Type 0) → Asn1DerError → Type 0
HasFirstError P first error size given e =
    (padded : List ℕ) × Opens size given padded × RejectsPadded P size padded e × OrMemory (PaddedError P first error size padded) e
