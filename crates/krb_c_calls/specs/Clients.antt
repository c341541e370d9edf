-- The client's half (MS-KKDCP, 2.2.2).
use Rattle.std.specs.Prelude.{◌≡◌, ◌⊎◌, ℕ, List, length, None}
use Rattle.std.specs.Str.{IsAscii}
use Rattle.krb_der_core.specs.declared.der.DerEncode.{Ghosts as EncodingOf}
use Rattle.krb_messages.specs.declared.messages.proxy.KdcProxyMessage.{KdcProxyMessage}
use Rattle.krb_kdc_proxy.specs.declared.client.ProxyReply.{ProxyReply}
use Rattle.krb_kdc_proxy.specs.Client.{IsNoProxyReply, IsNotWritten, IsProxyReply, IsWritten}
use Rattle.krb_kdc_proxy.specs.Replies.{ReplyTypes}
use Rattle.krb_kdc_proxy.specs.Requests.{RequestTypes}
use Rattle.krb_c_calls.specs.ProxyStatuses.{Refuses}

-- the octets are what a client posts of this message, for this realm, with no hint
abbrev pub IsRequestMade : EncodingOf KdcProxyMessage → RequestTypes → List ℕ → List ℕ → List ℕ → Type 0
IsRequestMade proxy t message domain made = IsWritten proxy t message domain None made

-- Memory was wanting (2), or the realm is not of ASCII (9); else no proxy takes the message.
abbrev pub RefusesRequest : EncodingOf KdcProxyMessage → RequestTypes → List ℕ → List ℕ → ℕ → Type 0
RefusesRequest proxy t message domain status =
    (status ≡ 2)
    ⊎ (((status ≡ 9) × (IsAscii domain → ⊥))
    ⊎ (IsAscii domain × Refuses (IsNotWritten proxy t message domain None) status))

-- where the one reply stands that the octets hold
pub record IsReplyAt (proxy : EncodingOf KdcProxyMessage) (t : ReplyTypes) (octets : List ℕ) (offset size : ℕ) : Type 0 where
  pub reply : ProxyReply
  pub is_reply : IsProxyReply proxy t octets reply
  pub offset_is : offset ≡ reply.offset
  pub size_is : size ≡ length reply.datagram.now

-- The octets hold a reply, whose place is told (0); or they are refused, and 0 is told.
abbrev pub IsReplyTold : EncodingOf KdcProxyMessage → ReplyTypes → List ℕ → ℕ → ℕ → ℕ → Type 0
IsReplyTold proxy t octets offset size status =
    ((status ≡ 0) × IsReplyAt proxy t octets offset size)
    ⊎ (Refuses (IsNoProxyReply proxy t octets) status × (offset ≡ 0) × (size ≡ 0))
