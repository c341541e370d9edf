-- The frame of a GSS token (RFC 2743, 3.1), and what stands in one.
use Rattle.std.specs.Prelude.{◌≡◌, ℕ, List, ◌∷◌, ◌<◌, length, drop}
use Rattle.krb_der_core.specs.declared.error.Asn1DerError.{Asn1DerError}
use Rattle.krb_der_core.specs.declared.error.Asn1DerError.TheVariants as errors
use Rattle.krb_der_core.specs.Encoding.{IsOctets}
use Rattle.krb_der_core.specs.Tlv.{tlv}

-- the encoding of a SEQUENCE as a token: application 0, constructed (60), stands in the place of its tag
abbrev pub in_token : List ℕ → List ℕ
in_token encoding = 96 ∷ drop 1 encoding

-- the token of this content
abbrev pub token : List ℕ → List ℕ
token content = tlv 96 content

-- two octets that say what an inner token is (RFC 4121, 4.1)
pub record IsTokenId (id : List ℕ) : Type 0 where
  pub two : length id ≡ 2
  pub octets : IsOctets id

-- the error of these two octets: one or both are missing
abbrev pub IdError : List ℕ → Asn1DerError → Type 0
IdError octets e = (e ≡ errors.TruncatedData) × (length octets < 2)
