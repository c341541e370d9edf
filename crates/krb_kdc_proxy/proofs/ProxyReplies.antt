-- What a client reads, from what is known of its parts.
use Rattle.std.proofs.Common.{◌≡◌, ℕ, ◌+◌, List, subst, inl, inr}
use Rattle.krb_der_core.specs.declared.der.DerEncode.{Ghosts as EncodingOf}
use Rattle.krb_messages.specs.declared.messages.proxy.KdcProxyMessage.{KdcProxyMessage}
use Rattle.krb_kdc_proxy.specs.declared.client.ProxyReply.{ProxyReply}
use Rattle.krb_kdc_proxy.specs.declared.error.ProxyError.{ProxyError}
use Rattle.krb_kdc_proxy.specs.Client.{IsNoProxyReply, IsProxyReply}
use Rattle.krb_der.specs.Whole.{Encodes}
use Rattle.krb_kdc_proxy.specs.Messages.{OrMemory}
use Rattle.krb_kdc_proxy.specs.Replies.{ReplyTypes}
use Rattle.krb_kdc_proxy.specs.Standing.{IsKerbMessage}
use Rattle.krb_kdc_proxy.specs.Streams.{IsNoStreamReply, IsStreamReply}
use Rattle.krb_kdc_proxy.proofs.Requests.{stands_prefixed}

-- the reply that a KDC-PROXY-MESSAGE holds
pub held_reply : (proxy : EncodingOf KdcProxyMessage) (t : ReplyTypes) (octets : List ℕ) (start : ℕ) (message : KdcProxyMessage) (r : ProxyReply) → Encodes proxy octets message
    → (r.stream.now ≡ message.kerb_message) × IsKerbMessage r.stream.now start octets → IsStreamReply t r.stream.now r.datagram.now r.reply → r.offset ≡ start + 4
    → IsProxyReply proxy t octets r
held_reply proxy t octets start message r encodes stream sent offset = record {
  message = message;
  encodes = encodes;
  sent = subst (λ (l : List ℕ). IsStreamReply t l r.datagram.now r.reply) stream.0 sent;
  stream_is = stream.0;
  stands = stands_prefixed octets r.datagram.now start r.offset offset (subst (λ (l : List ℕ). IsKerbMessage l start octets) sent.prefix.1 stream.1);
}

-- what kerb-message is no reply
pub held_none : (proxy : EncodingOf KdcProxyMessage) (t : ReplyTypes) (octets stream : List ℕ) (message : KdcProxyMessage) (e : ProxyError) → Encodes proxy octets message
    → stream ≡ message.kerb_message → OrMemory (IsNoStreamReply t stream) e → OrMemory (IsNoProxyReply proxy t octets) e
held_none proxy t octets stream message e encodes same (inl memory) = inl memory
held_none proxy t octets stream message e encodes same (inr none) = inr (inr (message, encodes, subst (λ (l : List ℕ). IsNoStreamReply t l e) same none))
