-- What a proxy passes on that looks at a message's first octets alone.
use Rattle.std.specs.Prelude.{◌≡◌, ◌⊎◌, ℕ, List, Some, None}
use Rattle.krb_der_core.specs.declared.der.DerEncode.{Ghosts as EncodingOf}
use Rattle.krb_messages.specs.declared.messages.proxy.KdcProxyMessage.{KdcProxyMessage}
use Rattle.krb_kdc_proxy.specs.declared.error.ProxyError.{ProxyError}
use Rattle.krb_kdc_proxy.specs.declared.error.ProxyError.TheVariants as errors
use Rattle.krb_kdc_proxy.specs.declared.asked.Service.{Service}
use Rattle.krb_kdc_proxy.specs.declared.asked.Service.TheVariants as service
use Rattle.krb_kdc_proxy.specs.declared.frame.Direction.TheVariants as direction
use Rattle.krb_kdc_proxy.specs.declared.lenient.LenientRequest.{LenientRequest}
use Rattle.krb_kdc_proxy.specs.Frames.{BeginsAsFrame}
use Rattle.krb_kdc_proxy.specs.Prefixed.{IsNotPrefixed, IsPrefixed}
use Rattle.krb_kdc_proxy.specs.Requests.{IsNotPosted, IsPosted, IsTagged}
use Rattle.krb_kdc_proxy.specs.Standing.{StandsPrefixed}

-- The octets begin as a frame in which a password is changed; or else with the first octet of an AS-REQ (application 10) or of a TGS-REQ
-- (application 12), which go to a KDC.
abbrev pub LooksLike : List ℕ → Service → Type 0
LooksLike octets service.PasswordChange = BeginsAsFrame direction.Request octets
LooksLike octets service.Kdc = (BeginsAsFrame direction.Request octets → ⊥) × (IsTagged 106 octets ⊎ IsTagged 108 octets)

-- they begin as none of these
abbrev pub LooksLikeNone : List ℕ → Type 0
LooksLikeNone octets = (BeginsAsFrame direction.Request octets → ⊥) × (IsTagged 106 octets → ⊥) × (IsTagged 108 octets → ⊥)

-- The request is the one that this message holds, whose octets for a stream and for a datagram are these, as they look; for this realm; with this hint.
pub record IsLookedAt (message : KdcProxyMessage) (stream datagram : List ℕ) (offset : ℕ) (r : LenientRequest) : Type 0 where
  pub domain : message.target_domain.0 ≡ Some r.target_domain
  pub hint : message.dclocator_hint.0 ≡ r.hint
  pub looks : LooksLike datagram r.service
  pub stream_is : r.stream.now ≡ stream
  pub datagram_is : r.datagram.now ≡ datagram
  pub offset_is : r.offset ≡ offset

-- there is no target-domain, or the message looks like no request
abbrev pub IsNotLookedAt : KdcProxyMessage → List ℕ → ProxyError → Type 0
IsNotLookedAt message datagram error =
    ((error ≡ errors.NoTargetDomain) × (message.target_domain.0 ≡ None))
    ⊎ ((domain : List ℕ) × (message.target_domain.0 ≡ Some domain) × (error ≡ errors.OtherKind) × LooksLikeNone datagram)

-- The octets are a KDC-PROXY-MESSAGE whose kerb-message is octets behind their length, and this is the request that it holds. They stand in the octets
-- behind so many.
pub record IsLenientRequest (proxy : EncodingOf KdcProxyMessage) (octets : List ℕ) (r : LenientRequest) : Type 0 where
  pub message : KdcProxyMessage
  pub posted : IsPosted proxy octets message
  pub datagram : List ℕ
  pub prefix : IsPrefixed message.kerb_message datagram
  pub looked_at : IsLookedAt message message.kerb_message datagram r.offset r
  pub stands : StandsPrefixed datagram r.offset octets

-- Why the octets are none: the first rule that they break.
abbrev pub IsNoLenientRequest : EncodingOf KdcProxyMessage → List ℕ → ProxyError → Type 0
IsNoLenientRequest proxy octets error =
    IsNotPosted proxy octets error
    ⊎ ((message : KdcProxyMessage) × IsPosted proxy octets message
    × (IsNotPrefixed message.kerb_message error
    ⊎ ((datagram : List ℕ) × IsPrefixed message.kerb_message datagram × IsNotLookedAt message datagram error)))
