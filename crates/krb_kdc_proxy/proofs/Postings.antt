-- Replies that go back.
use Rattle.std.proofs.Common.{◌≡◌, ℕ, List, Result, Ok, Err, subst, IfOk}
use Rattle.krb_der_core.specs.declared.der.DerEncode.{Ghosts as EncodingOf}
use Rattle.krb_messages.specs.declared.messages.proxy.KdcProxyMessage.{KdcProxyMessage}
use Rattle.krb_kdc_proxy.specs.declared.error.ProxyError.{ProxyError}
use Rattle.krb_kdc_proxy.specs.declared.replies.Reply.{Reply}
use Rattle.krb_der.specs.Whole.{Encodes}
use Rattle.krb_kdc_proxy.specs.Replies.{ReplyTypes}
use Rattle.krb_kdc_proxy.specs.Streams.{IsPosting, IsStreamReply, holding}

-- the octets that a result has
module _ {A : Type 0} (octets_of : A → List ℕ) (proxy : EncodingOf KdcProxyMessage) (t : ReplyTypes) where
  pub posted : (r : Result A ProxyError) (stream datagram given : List ℕ) (reply : Reply) → IfOk r (λ o. Encodes proxy (octets_of o) (holding given)) → given ≡ stream
      → IsStreamReply t stream datagram reply → IfOk r (λ o. IsPosting proxy t stream datagram (octets_of o))
  posted (Ok o) stream datagram given reply e same sent =
      record { reply = reply; sent = sent; encodes = subst (λ (l : List ℕ). Encodes proxy (octets_of o) (holding l)) same e }
  posted (Err e) stream datagram given reply f same sent = f

  pub some_posted : (r : Result A ProxyError) (stream datagram given : List ℕ) (reply : Reply) → IfOk r (λ o. Encodes proxy (octets_of o) (holding given)) → given ≡ stream
      → IsStreamReply t stream datagram reply → IfOk r (λ o. (d : List ℕ) × IsPosting proxy t stream d (octets_of o))
  some_posted (Ok o) stream datagram given reply e same sent =
      (datagram, record { reply = reply; sent = sent; encodes = subst (λ (l : List ℕ). Encodes proxy (octets_of o) (holding l)) same e })
  some_posted (Err e) stream datagram given reply f same sent = f
