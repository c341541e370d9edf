-- Which octets are a message, and which are none (RFC 4178, 4.2; X.690).
use Rattle.std.specs.Prelude.{◌≡◌, ◌⊎◌, ℕ, List, Option}
use Rattle.krb_der_core.specs.declared.der.DerEncode.{Ghosts as EncodingOf}
use Rattle.krb_der_core.specs.declared.error.Asn1DerError.{Asn1DerError}
use Rattle.krb_der_core.specs.declared.error.Asn1DerError.TheVariants as errors
use Rattle.krb_der_core.specs.Errors.{ValueError}
use Rattle.krb_gss_tokens.specs.declared.spnego.GssApiNegInit.{GssApiNegInit}
use Rattle.krb_gss_tokens.specs.declared.spnego.NegTokenTarg.{NegTokenTarg}
use Rattle.krb_spnego_rules.specs.declared.message.Message.{Message}
use Rattle.krb_spnego_rules.specs.declared.message.Proposal.{Proposal}
use Rattle.krb_spnego.specs.Messages.{IsMessage, IsOffer, IsProposal, spnego_arcs}
use Rattle.krb_spnego.specs.States.{TellsNone}
use Rattle.krb_spnego.specs.declared.error.ReadError.{ReadError}
use Rattle.krb_spnego.specs.declared.error.ReadError.TheVariants.{OutOfMemory, Malformed, NotSpnego, UnknownState}

-- the octets are the encoding of this value
abbrev pub Encodes : {A : Type 0} → EncodingOf A → A → List ℕ → Type 0
Encodes t value octets = t.is_value value × (octets ≡ t.enc value)

abbrev pub error_of : Asn1DerError → ReadError
error_of errors.OutOfMemory = OutOfMemory
error_of errors.InvalidData = Malformed errors.InvalidData
error_of errors.TruncatedData = Malformed errors.TruncatedData
error_of errors.UnsupportedValue = Malformed errors.UnsupportedValue
error_of (errors.Io e) = Malformed (errors.Io e)

-- memory was wanting, or this is the first error of the octets, which are the encoding of no value
abbrev pub IsMalformed : {A : Type 0} → EncodingOf A → List ℕ → ReadError → Type 0
IsMalformed t octets e =
    (e ≡ OutOfMemory) ⊎ ((error : Asn1DerError) × (ValueError t.is_value t.enc t.first t.error octets error × (e ≡ Malformed error)))

-- ---- a reply: negTokenResp [1]

abbrev pub ReadsReply : EncodingOf NegTokenTarg → List ℕ → Message → Type 0
ReadsReply t octets message = (value : NegTokenTarg) × (Encodes t value octets × IsMessage value message)

-- they are no encoding, or that of a value whose negState is none of the four
abbrev pub RejectsReply : EncodingOf NegTokenTarg → List ℕ → ReadError → Type 0
RejectsReply t octets e =
    IsMalformed t octets e ⊎ ((value : NegTokenTarg) × (Encodes t value octets × (TellsNone value.neg_result.0 × (e ≡ UnknownState))))

-- ---- an offer: negTokenInit [0] in the frame of SPNEGO

abbrev pub ReadsOffer : EncodingOf GssApiNegInit → EncodingOf (List (List ℕ)) → List ℕ → Proposal → Type 0
ReadsOffer t l octets proposal =
    (value : GssApiNegInit) × (Encodes t value octets × ((value.oid ≡ spnego_arcs) × IsProposal l.enc value.neg_token_init proposal))

-- they are no encoding, or that of a token of another mechanism
abbrev pub RejectsOffer : EncodingOf GssApiNegInit → List ℕ → ReadError → Type 0
RejectsOffer t octets e =
    IsMalformed t octets e ⊎ ((value : GssApiNegInit) × (Encodes t value octets × ((value.oid ≡ spnego_arcs → ⊥) × (e ≡ NotSpnego))))

-- ---- what is written

-- the octets are the encoding of a NegTokenResp that says just this
abbrev pub IsWritten : EncodingOf NegTokenTarg → Message → List ℕ → Type 0
IsWritten t message octets = (value : NegTokenTarg) × (Encodes t value octets × IsMessage value message)

-- the octets are the encoding of an offer of these mechanisms with this first token
abbrev pub IsOffered : EncodingOf GssApiNegInit → List (List ℕ) → Option (List ℕ) → List ℕ → Type 0
IsOffered t types token octets = (value : GssApiNegInit) × (Encodes t value octets × IsOffer types token value)
