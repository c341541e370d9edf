-- A token of IAKERB (draft-ietf-kitten-iakerb-03, 3), and which octets are none.
use Rattle.std.specs.Prelude.{◌≡◌, ◌⊎◌, ℕ, List, [], ◌∷◌, ◌++◌}
use Rattle.krb_der_core.specs.declared.error.Asn1DerError.{Asn1DerError}
use Rattle.krb_der_core.specs.declared.error.Asn1DerError.TheVariants as errors
use Rattle.krb_der_core.specs.declared.der.DerEncode.{Ghosts as EncodingOf}
use Rattle.krb_der_core.specs.Errors.{OrMemory}
use Rattle.krb_der_core.specs.Tlv.{tlv}
use Rattle.krb_der.specs.Whole.{NoDevice}
use Rattle.krb_der_x509.specs.ObjectIdentifier.{dotted, object_identifier}
use Rattle.krb_gss_tokens.specs.Header.{HeaderReads}
use Rattle.krb_gss_tokens.specs.declared.iakerb_header.messages.header.IAKerbHeader.{IAKerbHeader}
use Rattle.krb_gss_tokens.specs.declared.error.GssApiMessageError.{GssApiMessageError}
use Rattle.krb_gss_tokens.specs.declared.error.GssApiMessageError.TheVariants as gss
use Rattle.krb_gss_tokens.specs.Errors.{of_der}
use Rattle.krb_gss_tokens.specs.Rejected.{TrailingId, TrailingMechanism, ElementRejected, FrameRejected, IdRejected, InToken, MechanismRejected, MessageRejected}

-- 1.3.6.1.5.2.5: IAKERB
abbrev pub iakerb : List ℕ
iakerb = 1 ∷ 3 ∷ 6 ∷ 1 ∷ 5 ∷ 2 ∷ 5 ∷ []

-- 05 01: IAKERB_PROXY
abbrev pub proxy_id : List ℕ
proxy_id = 5 ∷ 1 ∷ []

-- The content of a token is read as a header and a message: it is the mechanism, the id, octets that are read as the header,
-- and the message's encoding, with nothing after it.
pub record ProxyReads {A : Type 0} (enc : A → List ℕ) (content : List ℕ) (header : IAKerbHeader) (message : A) : Type 0 where
  pub octets : List ℕ
  pub reads : HeaderReads octets header
  pub fields : content ≡ object_identifier iakerb ++ (proxy_id ++ (octets ++ enc message))

-- ---- the errors

-- the error names the expected mechanism and the other one, in decimal
abbrev pub ReportsMechanism : List ℕ → GssApiMessageError → Type 0
ReportsMechanism oid gss.OutOfMemory = Unit {0}
ReportsMechanism oid (gss.InvalidMechanismOid expected got) = (expected.bytes.items ≡ dotted iakerb) × (got.bytes.items ≡ dotted oid)
ReportsMechanism oid (gss.InvalidId x y) = ⊥
ReportsMechanism oid (gss.IoError x) = ⊥
ReportsMechanism oid (gss.InvalidMicFiller x) = ⊥
ReportsMechanism oid (gss.InvalidWrapFiller x) = ⊥
ReportsMechanism oid (gss.Asn1Error f) = ⊥

abbrev pub IAKerbRejected : List ℕ → GssApiMessageError → Type 0
IAKerbRejected content e = MechanismRejected content e ⊎ TrailingMechanism content (λ oid trailing. (oid ≡ iakerb → ⊥) × ReportsMechanism oid e)

abbrev pub ProxyIdRejected : List ℕ → GssApiMessageError → Type 0
ProxyIdRejected octets e = IdRejected octets e ⊎ TrailingId octets (λ id trailing. (id ≡ proxy_id → ⊥) × (e ≡ gss.InvalidId proxy_id id))

-- A sequence of this content is at the start, and is read as no header; its first error is returned, unless an allocation
-- fails.
pub record NoHeader (h : EncodingOf IAKerbHeader) (octets : List ℕ) (f : Asn1DerError) : Type 0 where
  pub content : List ℕ
  pub trailing : List ℕ
  pub prefix : octets ≡ tlv 48 content ++ trailing
  pub no_device : NoDevice f
  pub none : (v : IAKerbHeader) → h.is_value v → HeaderReads (tlv 48 content) v → f ≡ errors.OutOfMemory
  pub first : OrMemory (h.error 48 content) f

abbrev pub HeaderRejected : EncodingOf IAKerbHeader → List ℕ → GssApiMessageError → Type 0
HeaderRejected h octets e = (f : Asn1DerError) × (e ≡ of_der f) × (ElementRejected 48 octets f ⊎ NoHeader h octets f)

-- a header is at the start, and what follows it is so
abbrev pub TrailingHeader : EncodingOf IAKerbHeader → List ℕ → (List ℕ → Type 0) → Type 0
TrailingHeader h octets P = (v : IAKerbHeader) × (b : List ℕ) × (trailing : List ℕ) × h.is_value v × HeaderReads b v × (octets ≡ b ++ trailing) × P trailing

-- The first error of a token, from the left: of its frame, its mechanism, its id, its header, its message.
abbrev pub ProxyRejected : {A : Type 0} → EncodingOf IAKerbHeader → EncodingOf A → List ℕ → GssApiMessageError → Type 0
ProxyRejected h m input e =
    FrameRejected input e ⊎ InToken input (λ content.
    IAKerbRejected content e ⊎ ((trailing : List ℕ) × (content ≡ object_identifier iakerb ++ trailing) × (
    ProxyIdRejected trailing e ⊎ ((octets : List ℕ) × (trailing ≡ proxy_id ++ octets) × (
    HeaderRejected h octets e ⊎ TrailingHeader h octets (λ last.
    MessageRejected m last e))))))
