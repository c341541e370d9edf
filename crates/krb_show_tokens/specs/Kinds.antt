-- Which kind of token octets are to be, and what is told of them by that.
use Rattle.std.specs.Prelude.{◌≡◌, ◌⊎◌, nat_eq, ◌&&◌, Bool, if◌then◌else◌, ℕ, List, [], ◌∷◌, Err, length, slice_index}
use Rattle.krb_der_core.specs.declared.error.Asn1DerError.TheVariants as errors
use Rattle.krb_gss_tokens.specs.declared.error.GssApiMessageError.TheVariants as gss
use Rattle.krb_show_tokens.specs.declared.heads.Head.{Head}
use Rattle.krb_show_tokens.specs.declared.heads.Head.TheVariants as heads
use Rattle.krb_show_tokens.specs.declared.tokens.Framed.{Framed}
use Rattle.krb_show_tokens.specs.declared.tokens.Framed.TheVariants as framed
use Rattle.krb_show_tokens.specs.declared.tokens.TokenKind.{TokenKind}
use Rattle.krb_show_tokens.specs.declared.tokens.TokenKind.TheVariants as kind
use Rattle.krb_show_tokens.specs.Heads.{IsHead}
use Rattle.krb_show_tokens.specs.Told.{Tells}

-- ---- which kind

-- these are the two octets of the token id
abbrev pub are : ℕ → ℕ → ℕ → ℕ → Bool
are first second a b = nat_eq first a && nat_eq second b

-- the message that a token id names: RFC 4121, 4.1; draft-swift-win2k-krb-user2user-03; draft-zhu-pku2u-09, 6; draft-ietf-kitten-iakerb-03, 3
abbrev pub message_of : ℕ → ℕ → Framed
message_of first second =
    if are first second 1 0 then framed.ApReq
    else (if are first second 2 0 then framed.ApRep
    else (if are first second 3 0 then framed.KrbError
    else (if are first second 4 0 then framed.TgtReq
    else (if are first second 4 1 then framed.TgtRep
    else (if are first second 5 0 then framed.AsReq
    else (if are first second 5 1 then framed.Proxy
    else (if are first second 6 0 then framed.AsRep
    else framed.UnknownId first second)))))))

-- what a frame with this head holds; a KRB-AP-REQ is expected where it names nothing
abbrev pub framed_of : Head → Framed
framed_of heads.Negotiation = framed.Negotiation
framed_of (heads.Kerberos first second) = message_of first second
framed_of heads.Unknown = framed.ApReq

-- the kind of a token that begins with this octet: the first of a token id of MIC and of Wrap tokens (RFC 4121, 4.2.6), the tag of a frame (RFC 2743, 3.1),
-- and those of NegTokenInit and NegTokenResp (RFC 4178, 4.2)
abbrev pub kind_of_first : ℕ → TokenKind
kind_of_first first =
    if nat_eq first 4 then kind.Mic
    else (if nat_eq first 5 then kind.Wrap
    else (if nat_eq first 96 then kind.Framed
    else (if nat_eq first 160 then kind.NegTokenInit
    else (if nat_eq first 161 then kind.NegTokenResp
    else kind.Unknown))))

-- the kind of a token
abbrev pub kind_of : List ℕ → TokenKind
kind_of octets = if nat_eq (length octets) 0 then kind.Empty else kind_of_first (slice_index octets 0)

-- ---- what is told

-- which page octets have, or which error, for each kind of token, and for each message in a frame
pub record ByKind : Type 1 where
  pub mic : Tells
  pub wrap : Tells
  pub neg_token_init : Tells
  pub neg_token_resp : Tells
  pub negotiation : Tells
  pub ap_req : Tells
  pub ap_rep : Tells
  pub krb_error : Tells
  pub tgt_req : Tells
  pub tgt_rep : Tells
  pub as_req : Tells
  pub as_rep : Tells
  pub iakerb : Tells

-- that of a frame that is to hold this
abbrev pub tells_of_framed : ByKind → Framed → Tells
tells_of_framed by framed.Negotiation = by.negotiation
tells_of_framed by framed.ApReq = by.ap_req
tells_of_framed by framed.ApRep = by.ap_rep
tells_of_framed by framed.KrbError = by.krb_error
tells_of_framed by framed.TgtReq = by.tgt_req
tells_of_framed by framed.TgtRep = by.tgt_rep
tells_of_framed by framed.AsReq = by.as_req
tells_of_framed by framed.AsRep = by.as_rep
tells_of_framed by framed.Proxy = by.iakerb
tells_of_framed by (framed.UnknownId first second) = λ octets result. result ≡ Err (gss.InvalidId (1 ∷ 0 ∷ []) (first ∷ second ∷ []))

-- that of a frame, by its head, unless memory was wanting to read it
abbrev pub tells_of_frame : ByKind → Tells
tells_of_frame by octets result =
    (result ≡ Err gss.OutOfMemory) ⊎ ((head : Head) × IsHead octets head × tells_of_framed by (framed_of head) octets result)

-- that of a token of this kind
abbrev pub tells_of_kind : ByKind → TokenKind → Tells
tells_of_kind by kind.Mic = by.mic
tells_of_kind by kind.Wrap = by.wrap
tells_of_kind by kind.Framed = tells_of_frame by
tells_of_kind by kind.NegTokenInit = by.neg_token_init
tells_of_kind by kind.NegTokenResp = by.neg_token_resp
tells_of_kind by kind.Empty = λ octets result. result ≡ Err (gss.Asn1Error errors.TruncatedData)
tells_of_kind by kind.Unknown = λ octets result. result ≡ Err (gss.Asn1Error errors.InvalidData)
