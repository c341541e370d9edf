-- The client's half: requests that it posts to a proxy, and what it reads of the answer (MS-KKDCP, 2.2.2, 3.1.5.1 and 3.2.5.2).
use Rattle.std.specs.Prelude.{◌≡◌, ◌⊎◌, ℕ, ℤ, ◌<◌, ◌≤◌, List, length, Option, Some}
use Rattle.krb_der_core.specs.declared.der.DerEncode.{Ghosts as EncodingOf}
use Rattle.krb_messages.specs.declared.messages.proxy.KdcProxyMessage.{KdcProxyMessage}
use Rattle.krb_messages.specs.declared.kpasswd.error.MessageError.{MessageError}
use Rattle.krb_kdc_proxy.specs.declared.error.ProxyError.{ProxyError}
use Rattle.krb_kdc_proxy.specs.declared.error.ProxyError.TheVariants as errors
use Rattle.krb_kdc_proxy.specs.declared.client.ProxyReply.{ProxyReply}
use Rattle.krb_kdc_proxy.specs.declared.request.ProxyRequest.{ProxyRequest}
use Rattle.krb_der.specs.Whole.{Encodes}
use Rattle.krb_kdc_proxy.specs.Messages.{IsNoEncoding}
use Rattle.krb_kdc_proxy.specs.Prefixed.{prefixed}
use Rattle.krb_kdc_proxy.specs.Replies.{ReplyTypes}
use Rattle.krb_kdc_proxy.specs.Requests.{AsksNothing, IsRequest, RequestTypes}
use Rattle.krb_kdc_proxy.specs.Standing.{StandsPrefixed}
use Rattle.krb_kdc_proxy.specs.Streams.{IsNoStreamReply, IsStreamReply}

-- ---- requests

-- the message that holds this one behind its length, for this realm, with this hint
abbrev pub asking : List ℕ → List ℕ → Option ℤ → KdcProxyMessage
asking datagram domain hint = record { kerb_message = prefixed datagram; target_domain = record { 0 = Some domain }; dclocator_hint = record { 0 = hint } }

-- the octets are that message's encoding, and the request that a proxy reads of them is for this datagram, realm and hint
pub record IsWritten (proxy : EncodingOf KdcProxyMessage) (t : RequestTypes) (datagram domain : List ℕ) (hint : Option ℤ) (octets : List ℕ) : Type 0 where
  pub encodes : Encodes proxy octets (asking datagram domain hint)
  pub request : ProxyRequest
  pub is_request : IsRequest proxy t octets request
  pub datagram_is : request.datagram.now ≡ datagram
  pub domain_is : request.target_domain ≡ domain
  pub hint_is : request.hint ≡ hint

-- Why there is no such request: the message would have more octets than a proxy takes, or this one asks for nothing.
abbrev pub IsNotWritten : EncodingOf KdcProxyMessage → RequestTypes → List ℕ → List ℕ → Option ℤ → ProxyError → Type 0
IsNotWritten proxy t datagram domain hint error =
    ((error ≡ errors.TooLarge) × (131072 < length (proxy.enc (asking datagram domain hint))))
    ⊎ ((length (proxy.enc (asking datagram domain hint)) ≤ 131072) × AsksNothing t datagram error)

-- ---- replies

-- The octets are a KDC-PROXY-MESSAGE, and this is the reply that it holds behind its length. The reply stands in the octets behind so many, and its
-- length right before it.
pub record IsProxyReply (proxy : EncodingOf KdcProxyMessage) (t : ReplyTypes) (octets : List ℕ) (r : ProxyReply) : Type 0 where
  pub message : KdcProxyMessage
  pub encodes : Encodes proxy octets message
  pub sent : IsStreamReply t message.kerb_message r.datagram.now r.reply
  pub stream_is : r.stream.now ≡ message.kerb_message
  pub stands : StandsPrefixed r.datagram.now r.offset octets

-- Why the octets hold none: the first rule that they break.
abbrev pub IsNoProxyReply : EncodingOf KdcProxyMessage → ReplyTypes → List ℕ → ProxyError → Type 0
IsNoProxyReply proxy t octets error =
    ((why : MessageError) × (error ≡ errors.ProxyMessage why) × IsNoEncoding proxy octets why)
    ⊎ ((message : KdcProxyMessage) × Encodes proxy octets message × IsNoStreamReply t message.kerb_message error)
