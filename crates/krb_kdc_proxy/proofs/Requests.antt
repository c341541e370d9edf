-- Requests, from what is known of their parts.
use Rattle.std.proofs.Common.{◌≡◌, ℕ, ◌+◌, List, length, take, drop, Some, refl, sym, ap, ◌∙◌, subst, inl, inr, arith}
use Rattle.krb_der_core.specs.declared.der.DerEncode.{Ghosts as EncodingOf}
use Rattle.krb_messages.specs.declared.messages.application.ApReqInner.{ApReqInner}
use Rattle.krb_messages.specs.declared.messages.private.KrbPrivInner.{KrbPrivInner}
use Rattle.krb_messages.specs.declared.messages.proxy.KdcProxyMessage.{KdcProxyMessage}
use Rattle.krb_kdc_proxy.specs.declared.error.ProxyError.{ProxyError}
use Rattle.krb_kdc_proxy.specs.declared.frame.Direction.TheVariants as direction
use Rattle.krb_kdc_proxy.specs.declared.kind.MessageKind.TheVariants as kind
use Rattle.krb_kdc_proxy.specs.Frames.{IsFrame}
use Rattle.krb_kdc_proxy.specs.Messages.{IsMessage, IsNoMessage, OrMemory}
use Rattle.krb_kdc_proxy.specs.declared.request.ProxyRequest.{ProxyRequest}
use Rattle.krb_kdc_proxy.specs.Prefixed.{IsNotPrefixed, IsPrefixed, prefixed}
use Rattle.krb_kdc_proxy.specs.Standing.{IsKerbMessage, StandsAt, StandsPrefixed}
use Rattle.std.proofs.lemmas.List.{drop-drop, drop-take}
use Rattle.krb_kdc_proxy.specs.Requests.{AsksNothing, IsCarried, IsNoChange, IsNoRequest, IsNotCarried, IsPosted, IsRequest, RequestTypes, ap_request_numbers, private_numbers}

-- the second message of a frame is no KRB-PRIV
pub second_refused : (ap_req : EncodingOf ApReqInner) (krb_priv : EncodingOf KrbPrivInner) (octets first second : List ℕ) (v : ApReqInner) (e : ProxyError)
    → IsFrame direction.Request octets first second → IsMessage ap_req ap_request_numbers kind.ApReq first v
    → OrMemory (IsNoMessage krb_priv private_numbers kind.KrbPriv second) e → OrMemory (IsNoChange ap_req krb_priv octets) e
second_refused ap_req krb_priv octets first second v e framed is (inl memory) = inl memory
second_refused ap_req krb_priv octets first second v e framed is (inr none) = inr (inr (first, second, framed, inr (v, is, none)))

-- the message asks for nothing
pub nothing_asked : (t : RequestTypes) (message : KdcProxyMessage) (datagram domain : List ℕ) (e : ProxyError) → message.target_domain.0 ≡ Some domain
    → OrMemory (AsksNothing t datagram) e → OrMemory (IsNotCarried t message datagram) e
nothing_asked t message datagram domain e there (inl memory) = inl memory
nothing_asked t message datagram domain e there (inr none) = inr (inr (domain, there, none))

-- kerb-message is no message behind its length
pub not_prefixed : (proxy : EncodingOf KdcProxyMessage) (t : RequestTypes) (octets stream : List ℕ) (message : KdcProxyMessage) (e : ProxyError) → IsPosted proxy octets message
    → stream ≡ message.kerb_message → IsNotPrefixed stream e → OrMemory (IsNoRequest proxy t octets) e
not_prefixed proxy t octets stream message e posted same none = inr (inr (message, posted, inl (subst (λ (l : List ℕ). IsNotPrefixed l e) same none)))

-- a message stands behind its length
stands_behind : (octets datagram : List ℕ) (start : ℕ) → StandsAt (prefixed datagram) start octets → StandsAt datagram (start + 4) octets
stands_behind octets datagram start s =
    let n = length datagram in
    let long : length (prefixed datagram) ≡ 4 + n = omega arith in
    let at : take (4 + n) (drop start octets) ≡ prefixed datagram = subst (λ (k : ℕ). take k (drop start octets) ≡ prefixed datagram) long s.0 in
    let behind : take n (drop 4 (drop start octets)) ≡ datagram = sym (drop-take 4 n (drop start octets)) ∙ ap (drop 4) at in
    (ap (take n) (sym (drop-drop 4 start octets)) ∙ behind, omega (arith, long, s.1))

pub stands_prefixed : (octets datagram : List ℕ) (start offset : ℕ) → offset ≡ start + 4 → IsKerbMessage (prefixed datagram) start octets → StandsPrefixed datagram offset octets
stands_prefixed octets datagram start offset behind whole = record {
  start = start;
  behind = behind;
  whole = whole;
  alone = subst (λ (n : ℕ). StandsAt datagram n octets) (sym behind) (stands_behind octets datagram start whole.1);
}

-- the request that a KDC-PROXY-MESSAGE holds
pub carried_request : (proxy : EncodingOf KdcProxyMessage) (t : RequestTypes) (octets stream datagram : List ℕ) (start : ℕ) (message : KdcProxyMessage) (r : ProxyRequest)
    → IsPosted proxy octets message → (stream ≡ message.kerb_message) × IsKerbMessage stream start octets → IsPrefixed stream datagram → IsCarried t message stream datagram (start + 4) r
    → IsRequest proxy t octets r
carried_request proxy t octets stream datagram start message r posted (same, stands) prefix is = record {
  message = message;
  posted = posted;
  datagram = datagram;
  prefix = subst (λ (l : List ℕ). IsPrefixed l datagram) same prefix;
  carried = record { domain = is.domain; hint = is.hint; asks = is.asks; stream_is = is.stream_is ∙ same; datagram_is = is.datagram_is; offset_is = refl };
  stands = stands_prefixed octets datagram start r.offset is.offset_is (subst (λ (l : List ℕ). IsKerbMessage l start octets) prefix.1 stands);
}
