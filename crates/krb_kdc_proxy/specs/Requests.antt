-- What a proxy passes on to a KDC (MS-KKDCP, 2.2.2 and 3.2.5.1; RFC 4120, 5.4.1; RFC 3244, 2).
use Rattle.std.specs.Prelude.{◌≡◌, ◌⊎◌, ℕ, ◌<◌, ◌≤◌, List, ◌∷◌, length, Some, None}
use Rattle.krb_der_core.specs.declared.der.DerEncode.{Ghosts as EncodingOf}
use Rattle.krb_messages.specs.declared.messages.requests.KdcReq.{KdcReq}
use Rattle.krb_messages.specs.declared.messages.application.ApReqInner.{ApReqInner}
use Rattle.krb_messages.specs.declared.messages.private.KrbPrivInner.{KrbPrivInner}
use Rattle.krb_messages.specs.declared.messages.proxy.KdcProxyMessage.{KdcProxyMessage}
use Rattle.krb_kdc_proxy.specs.declared.error.ProxyError.{ProxyError}
use Rattle.krb_kdc_proxy.specs.declared.error.ProxyError.TheVariants as errors
use Rattle.krb_kdc_proxy.specs.declared.frame.Direction.TheVariants as direction
use Rattle.krb_kdc_proxy.specs.declared.kind.MessageKind.TheVariants as kind
use Rattle.krb_kdc_proxy.specs.declared.asked.Asked.{Asked}
use Rattle.krb_kdc_proxy.specs.declared.request.ProxyRequest.{ProxyRequest}
use Rattle.krb_kdc_proxy.specs.Asking.{change_asked, kdc_asked}
use Rattle.krb_kdc_proxy.specs.Frames.{BeginsAsFrame, IsFrame, IsNoFrame}
use Rattle.krb_der.specs.Whole.{Encodes}
use Rattle.krb_kdc_proxy.specs.Messages.{IsMessage, IsNoEncoding, IsNoMessage, Numbers}
use Rattle.krb_kdc_proxy.specs.Prefixed.{IsNotPrefixed, IsPrefixed}
use Rattle.krb_kdc_proxy.specs.Standing.{StandsPrefixed}

-- the numbers that each message begins with
abbrev pub request_numbers : Numbers KdcReq
request_numbers = record { pvno = λ v. v.pvno; msg_type = λ v. v.msg_type }

abbrev pub ap_request_numbers : Numbers ApReqInner
ap_request_numbers = record { pvno = λ v. v.pvno; msg_type = λ v. v.msg_type }

abbrev pub private_numbers : Numbers KrbPrivInner
private_numbers = record { pvno = λ v. v.pvno; msg_type = λ v. v.msg_type }

-- ---- requests to a KDC

-- an AS-REQ or a TGS-REQ
abbrev pub IsKdcRequest : EncodingOf KdcReq → EncodingOf KdcReq → List ℕ → Asked → Type 0
IsKdcRequest as_req tgs_req octets asked =
    ((v : KdcReq) × IsMessage as_req request_numbers kind.AsReq octets v × (asked ≡ kdc_asked v))
    ⊎ ((v : KdcReq) × IsMessage tgs_req request_numbers kind.TgsReq octets v × (asked ≡ kdc_asked v))

-- the first octet
abbrev pub IsTagged : ℕ → List ℕ → Type 0
IsTagged tag octets = (rest : List ℕ) × (octets ≡ tag ∷ rest)

-- Why octets are neither. By their first octet they are an AS-REQ (application 10) or a TGS-REQ (application 12) or none.
abbrev pub IsNoKdcRequest : EncodingOf KdcReq → EncodingOf KdcReq → List ℕ → ProxyError → Type 0
IsNoKdcRequest as_req tgs_req octets error =
    (IsTagged 106 octets × IsNoMessage as_req request_numbers kind.AsReq octets error)
    ⊎ ((IsTagged 108 octets × IsNoMessage tgs_req request_numbers kind.TgsReq octets error)
    ⊎ ((error ≡ errors.OtherKind) × (IsTagged 106 octets → ⊥) × (IsTagged 108 octets → ⊥)))

-- ---- changes of a password

-- a frame whose messages are an AP-REQ and a KRB-PRIV
pub record IsChange (ap_req : EncodingOf ApReqInner) (krb_priv : EncodingOf KrbPrivInner) (octets : List ℕ) (asked : Asked) : Type 0 where
  pub first : List ℕ
  pub second : List ℕ
  pub request : ApReqInner
  pub private : KrbPrivInner
  pub framed : IsFrame direction.Request octets first second
  pub is_request : IsMessage ap_req ap_request_numbers kind.ApReq first request
  pub is_private : IsMessage krb_priv private_numbers kind.KrbPriv second private
  pub asks : asked ≡ change_asked request

-- Why octets that begin as a frame are none: the first message does not end within it; else that is no AP-REQ; else the second is no KRB-PRIV.
abbrev pub IsNoChange : EncodingOf ApReqInner → EncodingOf KrbPrivInner → List ℕ → ProxyError → Type 0
IsNoChange ap_req krb_priv octets error =
    ((error ≡ errors.FrameLength) × IsNoFrame direction.Request octets)
    ⊎ ((first : List ℕ) × (second : List ℕ) × IsFrame direction.Request octets first second
    × (IsNoMessage ap_req ap_request_numbers kind.ApReq first error
    ⊎ ((v : ApReqInner) × IsMessage ap_req ap_request_numbers kind.ApReq first v × IsNoMessage krb_priv private_numbers kind.KrbPriv second error)))

-- ---- both

-- the types of messages that a request has
pub record RequestTypes : Type 1 where
  pub as_req : EncodingOf KdcReq
  pub tgs_req : EncodingOf KdcReq
  pub ap_req : EncodingOf ApReqInner
  pub krb_priv : EncodingOf KrbPrivInner

-- What a message asks for that goes to a KDC or to the server that changes passwords. What begins as a frame is a frame or nothing.
abbrev pub Asks : RequestTypes → List ℕ → Asked → Type 0
Asks t octets asked =
    (BeginsAsFrame direction.Request octets × IsChange t.ap_req t.krb_priv octets asked)
    ⊎ ((BeginsAsFrame direction.Request octets → ⊥) × IsKdcRequest t.as_req t.tgs_req octets asked)

-- why it asks for nothing: by the first rule that it breaks
abbrev pub AsksNothing : RequestTypes → List ℕ → ProxyError → Type 0
AsksNothing t octets error =
    (BeginsAsFrame direction.Request octets × IsNoChange t.ap_req t.krb_priv octets error)
    ⊎ ((BeginsAsFrame direction.Request octets → ⊥) × IsNoKdcRequest t.as_req t.tgs_req octets error)

-- ---- what a client posts

abbrev pub types : EncodingOf KdcReq → EncodingOf KdcReq → EncodingOf ApReqInner → EncodingOf KrbPrivInner → RequestTypes
types as_req tgs_req ap_req krb_priv = record { as_req = as_req; tgs_req = tgs_req; ap_req = ap_req; krb_priv = krb_priv }

-- the octets are no more than a proxy takes, and the encoding of this message
abbrev pub IsPosted : EncodingOf KdcProxyMessage → List ℕ → KdcProxyMessage → Type 0
IsPosted proxy octets v = (length octets ≤ 131072) × Encodes proxy octets v

-- they are more, or the encoding of none
abbrev pub IsNotPosted : EncodingOf KdcProxyMessage → List ℕ → ProxyError → Type 0
IsNotPosted proxy octets errors.TooLarge = 131072 < length octets
IsNotPosted proxy octets (errors.ProxyMessage error) = (length octets ≤ 131072) × IsNoEncoding proxy octets error
IsNotPosted proxy octets other = ⊥

-- what the request asks for
abbrev pub asked_by : ProxyRequest → Asked
asked_by r = record { service = r.service; realm = r.realm; client = r.client; server = r.server }

-- The request is the one that this message holds, whose octets for a stream and for a datagram are these: it asks for what they ask; for
-- this realm; with this hint.
pub record IsCarried (t : RequestTypes) (message : KdcProxyMessage) (stream datagram : List ℕ) (offset : ℕ) (r : ProxyRequest) : Type 0 where
  pub domain : message.target_domain.0 ≡ Some r.target_domain
  pub hint : message.dclocator_hint.0 ≡ r.hint
  pub asks : Asks t datagram (asked_by r)
  pub stream_is : r.stream.now ≡ stream
  pub datagram_is : r.datagram.now ≡ datagram
  pub offset_is : r.offset ≡ offset

-- there is no target-domain, or the message asks for nothing
abbrev pub IsNotCarried : RequestTypes → KdcProxyMessage → List ℕ → ProxyError → Type 0
IsNotCarried t message datagram error =
    ((error ≡ errors.NoTargetDomain) × (message.target_domain.0 ≡ None))
    ⊎ ((domain : List ℕ) × (message.target_domain.0 ≡ Some domain) × AsksNothing t datagram error)

-- The octets are a KDC-PROXY-MESSAGE whose kerb-message is a message behind its length (RFC 4120, 7.2.2), and this is the request that it holds. The
-- message stands in the octets behind so many, and its length right before it.
pub record IsRequest (proxy : EncodingOf KdcProxyMessage) (t : RequestTypes) (octets : List ℕ) (r : ProxyRequest) : Type 0 where
  pub message : KdcProxyMessage
  pub posted : IsPosted proxy octets message
  pub datagram : List ℕ
  pub prefix : IsPrefixed message.kerb_message datagram
  pub carried : IsCarried t message message.kerb_message datagram r.offset r
  pub stands : StandsPrefixed datagram r.offset octets

-- Why the octets are none: the first rule that they break.
abbrev pub IsNoRequest : EncodingOf KdcProxyMessage → RequestTypes → List ℕ → ProxyError → Type 0
IsNoRequest proxy t octets error =
    IsNotPosted proxy octets error
    ⊎ ((message : KdcProxyMessage) × IsPosted proxy octets message
    × (IsNotPrefixed message.kerb_message error
    ⊎ ((datagram : List ℕ) × IsPrefixed message.kerb_message datagram × IsNotCarried t message datagram error)))
