-- The frame of a GSS token (RFC 2743, 3.1), and why octets are none.
use Rattle.std.specs.Prelude.{◌≡◌, ◌==◌, ◌⊎◌, ℕ, ◌<◌, List, [], ◌++◌, length}
use Rattle.krb_der_core.specs.declared.error.Asn1DerError.{Asn1DerError}
use Rattle.krb_der_core.specs.declared.error.Asn1DerError.TheVariants as errors
use Rattle.krb_der_core.specs.Errors.{HeaderError, PrefixError, TaggedError}
use Rattle.krb_der_core.specs.Tlv.{tlv}
use Rattle.krb_der_x509.specs.ObjectIdentifier.{IsArcs, arcs_content}
use Rattle.krb_der_x509.specs.ObjectIdentifierErrors.{ArcsError}
use Rattle.krb_c_calls.specs.Statuses.{der_status}
use Rattle.krb_c_calls.specs.Places.{StandsBefore}

-- The octets are the content of an OBJECT IDENTIFIER (X.690, 8.19).
abbrev pub IsMechanism : List ℕ → Type 0
IsMechanism mechanism = (arcs : List ℕ) × IsArcs arcs × (mechanism ≡ arcs_content arcs)

-- The octets are a token: application 0, constructed (60), of the mechanism's OBJECT IDENTIFIER and the inner token behind it.
abbrev pub IsToken : List ℕ → List ℕ → List ℕ → Type 0
IsToken octets mechanism inner = IsMechanism mechanism × (octets ≡ tlv 96 (tlv 6 mechanism ++ inner))

-- The first error of octets that are no token, from the left: that of the tag 60, its length or missing content; that of the mechanism at
-- the start of the content; or octets are left over behind a token.
pub data TokenError (octets : List ℕ) : Asn1DerError → Type 0 where
  in_frame : (e : Asn1DerError) → HeaderError 96 octets e → TokenError octets e
  in_mechanism : (content rest : List ℕ) (e : Asn1DerError) → octets ≡ tlv 96 content ++ rest → PrefixError (λ t. t == 6) (TaggedError 6 ArcsError) content e → TokenError octets e
  left_over : (token mechanism inner rest : List ℕ) → octets ≡ token ++ rest → IsToken token mechanism inner → 0 < length rest → TokenError octets errors.InvalidData

-- the octets are no token, and this is their first error
abbrev pub IsNoToken : List ℕ → Asn1DerError → Type 0
IsNoToken octets e = ((mechanism inner : List ℕ) → IsToken octets mechanism inner → ⊥) × TokenError octets e

-- ---- what is answered

-- memory was wanting (2), or the octets are no token, for the reason that the status names
abbrev pub RefusesToken : List ℕ → ℕ → Type 0
RefusesToken octets status = (status ≡ 2) ⊎ ((why : Asn1DerError) × (status ≡ der_status why) × IsNoToken octets why)

-- The octets are a token (0), whose mechanism and inner token have these places; or they are refused, and all is 0.
abbrev pub IsTokenAt : List ℕ → ℕ → ℕ → ℕ → ℕ → ℕ → Type 0
IsTokenAt octets mechanism_offset mechanism_size inner_offset inner_size status =
    ((mechanism : List ℕ) × (inner : List ℕ) × IsToken octets mechanism inner × (status ≡ 0)
    × StandsBefore mechanism inner octets mechanism_offset mechanism_size × StandsBefore inner [] octets inner_offset inner_size)
    ⊎ (RefusesToken octets status × (mechanism_offset ≡ 0) × (mechanism_size ≡ 0) × (inner_offset ≡ 0) × (inner_size ≡ 0))

-- the octets are the token of this mechanism and this inner token
abbrev pub IsMadeToken : List ℕ → List ℕ → List ℕ → Type 0
IsMadeToken mechanism inner octets = IsToken octets mechanism inner

-- the octets are the content of no OBJECT IDENTIFIER, and this is their first error
abbrev pub IsNoMechanism : List ℕ → Asn1DerError → Type 0
IsNoMechanism mechanism e = (IsMechanism mechanism → ⊥) × ArcsError mechanism e

-- memory was wanting (2), or the mechanism is none, for the reason that the status names
abbrev pub RefusesMechanism : List ℕ → ℕ → Type 0
RefusesMechanism mechanism status = (status ≡ 2) ⊎ ((why : Asn1DerError) × (status ≡ der_status why) × IsNoMechanism mechanism why)
