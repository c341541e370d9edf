-- Requests that are looked at by their first octets, from what is known of their parts.
use Rattle.std.proofs.Common.{◌≡◌, ℕ, ◌+◌, List, refl, ◌∙◌, subst, inl, inr}
use Rattle.krb_der_core.specs.declared.der.DerEncode.{Ghosts as EncodingOf}
use Rattle.krb_messages.specs.declared.messages.proxy.KdcProxyMessage.{KdcProxyMessage}
use Rattle.krb_kdc_proxy.specs.declared.error.ProxyError.{ProxyError}
use Rattle.krb_kdc_proxy.specs.declared.lenient.LenientRequest.{LenientRequest}
use Rattle.krb_kdc_proxy.specs.Lenient.{IsLenientRequest, IsLookedAt, IsNoLenientRequest}
use Rattle.krb_kdc_proxy.specs.Messages.{OrMemory}
use Rattle.krb_kdc_proxy.specs.Prefixed.{IsNotPrefixed, IsPrefixed}
use Rattle.krb_kdc_proxy.specs.Requests.{IsPosted}
use Rattle.krb_kdc_proxy.specs.Standing.{IsKerbMessage}
use Rattle.krb_kdc_proxy.proofs.Requests.{stands_prefixed}

-- kerb-message is no message behind its length
pub not_prefixed : (proxy : EncodingOf KdcProxyMessage) (octets stream : List ℕ) (message : KdcProxyMessage) (e : ProxyError) → IsPosted proxy octets message
    → stream ≡ message.kerb_message → IsNotPrefixed stream e → OrMemory (IsNoLenientRequest proxy octets) e
not_prefixed proxy octets stream message e posted same none = inr (inr (message, posted, inl (subst (λ (l : List ℕ). IsNotPrefixed l e) same none)))

-- the request that a KDC-PROXY-MESSAGE holds
pub looked_at : (proxy : EncodingOf KdcProxyMessage) (octets stream datagram : List ℕ) (start : ℕ) (message : KdcProxyMessage) (r : LenientRequest)
    → IsPosted proxy octets message → (stream ≡ message.kerb_message) × IsKerbMessage stream start octets → IsPrefixed stream datagram → IsLookedAt message stream datagram (start + 4) r
    → IsLenientRequest proxy octets r
looked_at proxy octets stream datagram start message r posted (same, stands) prefix is = record {
  message = message;
  posted = posted;
  datagram = datagram;
  prefix = subst (λ (l : List ℕ). IsPrefixed l datagram) same prefix;
  looked_at = record { domain = is.domain; hint = is.hint; looks = is.looks; stream_is = is.stream_is ∙ same; datagram_is = is.datagram_is; offset_is = refl };
  stands = stands_prefixed octets datagram start r.offset is.offset_is (subst (λ (l : List ℕ). IsKerbMessage l start octets) prefix.1 stands);
}
