-- Which octets are no token, and by which first error, from the left (RFC 2743, 3.1; RFC 4121, 4.1).
use Rattle.std.specs.Prelude.{◌≡◌, ◌==◌, ◌⊎◌, ℕ, ◌<◌, ◌^◌, List, ◌++◌, length}
use Rattle.std.specs.IoError.{error_kind}
use Rattle.std.specs.declared.io.Error.{Error}
use Rattle.std.specs.declared.io.ErrorKind.TheVariants.{UnexpectedEof}
use Rattle.krb_der_core.specs.declared.error.Asn1DerError.{Asn1DerError}
use Rattle.krb_der_core.specs.declared.error.Asn1DerError.TheVariants as errors
use Rattle.krb_der_core.specs.declared.der.DerEncode.{Ghosts as EncodingOf}
use Rattle.krb_der_core.specs.Errors.{PrefixError, HeaderError, OrMemory, TaggedError}
use Rattle.krb_der_core.specs.Reading.{Elements, Encodings, RejectsPrefix}
use Rattle.krb_der_x509.specs.ObjectIdentifier.{IsArcs, object_identifier}
use Rattle.krb_der_x509.specs.ObjectIdentifierErrors.{ArcsError}
use Rattle.krb_gss_tokens.specs.Fields.{Begins}
use Rattle.krb_gss_tokens.specs.declared.error.GssApiMessageError.{GssApiMessageError}
use Rattle.krb_gss_tokens.specs.declared.error.GssApiMessageError.TheVariants as gss
use Rattle.krb_gss_tokens.specs.Errors.{of_der}
use Rattle.krb_gss_tokens.specs.Token.{IsTokenId, token}

-- ---- what is before an error

-- a token is at the start, whose content is so
abbrev pub InToken : List ℕ → (List ℕ → Type 0) → Type 0
InToken input P = (content : List ℕ) × (rest : List ℕ) × (input ≡ token content ++ rest) × P content

-- a mechanism is at the start, and what follows it is so
abbrev pub TrailingMechanism : List ℕ → (List ℕ → List ℕ → Type 0) → Type 0
TrailingMechanism content P = (oid : List ℕ) × (trailing : List ℕ) × IsArcs oid × (content ≡ object_identifier oid ++ trailing) × P oid trailing

-- a token id is at the start, and what follows it is so
abbrev pub TrailingId : List ℕ → (List ℕ → List ℕ → Type 0) → Type 0
TrailingId octets P = (id : List ℕ) × (trailing : List ℕ) × IsTokenId id × (octets ≡ id ++ trailing) × P id trailing

-- ---- the errors

-- an error of DER: nothing of P is at the start of the octets, and their first error is returned, unless an allocation fails
abbrev pub PrefixRejected : (List ℕ → Type 0) → (List ℕ → Asn1DerError → Type 0) → List ℕ → GssApiMessageError → Type 0
PrefixRejected P error octets e = (f : Asn1DerError) × (e ≡ of_der f) × RejectsPrefix P octets f × OrMemory (error octets) f

-- no element of this tag is at the start: it is cut short, or has a wrong length, and its first error is returned
abbrev pub ElementRejected : ℕ → List ℕ → Asn1DerError → Type 0
ElementRejected tag octets f = (f ≡ errors.OutOfMemory → ⊥) × RejectsPrefix (Elements tag) octets f × HeaderError tag octets f

-- the first octet is not 60, or no element of that tag is at the start
abbrev pub FrameRejected : List ℕ → GssApiMessageError → Type 0
FrameRejected input e = ((Begins 96 input → ⊥) × (e ≡ gss.Asn1Error errors.InvalidData))
    ⊎ (Begins 96 input × (f : Asn1DerError) × (e ≡ of_der f) × ElementRejected 96 input f)

-- no object identifier is at the start
abbrev pub MechanismRejected : List ℕ → GssApiMessageError → Type 0
MechanismRejected content e = PrefixRejected (Encodings IsArcs object_identifier) (PrefixError (λ t. t == 6) (TaggedError 6 ArcsError)) content e

-- one octet, or none
abbrev pub IdRejected : List ℕ → GssApiMessageError → Type 0
IdRejected octets e = (x : Error) × (e ≡ gss.IoError x) × (error_kind x ≡ UnexpectedEof) × (length octets < 2)

-- an encoding with trailing octets
abbrev pub IsFollowed : {A : Type 0} → (A → Type 0) → (A → List ℕ) → List ℕ → Type 0
IsFollowed {A} is_value enc octets = (v : A) × (more : List ℕ) × is_value v × (0 < length more) × (octets ≡ enc v ++ more)

-- what is to be one encoding of this kind, all of it
abbrev pub MessageRejected : {A : Type 0} → EncodingOf A → List ℕ → GssApiMessageError → Type 0
MessageRejected m octets e = PrefixRejected (Encodings m.is_value m.enc) (PrefixError m.first m.error) octets e
    ⊎ ((e ≡ gss.Asn1Error errors.InvalidData) × IsFollowed m.is_value m.enc octets)

-- ---- a token of Kerberos: any mechanism, any id, and a message

-- The first error of a token, from the left: of its frame, its mechanism, its id, its message.
abbrev pub KrbMessageRejected : {A : Type 0} → EncodingOf A → List ℕ → GssApiMessageError → Type 0
KrbMessageRejected m input e =
    FrameRejected input e ⊎ InToken input (λ content.
    MechanismRejected content e ⊎ TrailingMechanism content (λ oid trailing.
    IdRejected trailing e ⊎ TrailingId trailing (λ id last.
    MessageRejected m last e)))

-- ---- one error

-- Where octets have an error of DER, they have no other error, unless an allocation fails.
abbrev pub ReportsOneError : (List ℕ → GssApiMessageError → Type 0) → Type 0
ReportsOneError rejected = (octets : List ℕ) (f : Asn1DerError) (e : GssApiMessageError) → length octets < 2 ^ 64
    → rejected octets (gss.Asn1Error f) → rejected octets e → (e ≡ gss.OutOfMemory) ⊎ (e ≡ gss.Asn1Error f)
