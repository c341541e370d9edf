-- What is taken as a request is taken by its first octets too, as the same.
use Rattle.std.proofs.Common.{◌≡◌, ℕ, List, Some, None, refl, sym, ap, ◌∙◌, subst, inl, inr, arith}
use Rattle.krb_der_core.specs.declared.der.DerEncode.{Ghosts as EncodingOf}
use Rattle.krb_messages.specs.declared.messages.proxy.KdcProxyMessage.{KdcProxyMessage}
use Rattle.krb_kdc_proxy.specs.declared.asked.Asked.{Asked}
use Rattle.krb_kdc_proxy.specs.declared.asked.Service.{Service}
use Rattle.krb_kdc_proxy.specs.declared.asked.Service.TheVariants as service
use Rattle.krb_kdc_proxy.specs.declared.error.ProxyError.{ProxyError}
use Rattle.krb_kdc_proxy.specs.declared.lenient.LenientRequest.{LenientRequest}
use Rattle.krb_kdc_proxy.specs.declared.request.ProxyRequest.{ProxyRequest}
use Rattle.krb_kdc_proxy.specs.Lenient.{IsLenientRequest, IsNoLenientRequest, LooksLike, LooksLikeNone}
use Rattle.krb_kdc_proxy.specs.Prefixed.{IsPrefixed}
use Rattle.krb_kdc_proxy.specs.Requests.{Asks, IsRequest, RequestTypes, asked_by}
use Rattle.krb_kdc_proxy.proofs.OneMessage.{one_offset, one_value, prefixed_is, tagged}
use Rattle.krb_kdc_proxy.proofs.OneRequest.{RequestTags, not_posted, one_datagram}

one_look : (octets : List ℕ) (a b : Service) → LooksLike octets a → LooksLike octets b → a ≡ b
one_look octets service.Kdc service.Kdc x y = refl
one_look octets service.Kdc service.PasswordChange x y = absurd (x.0 y)
one_look octets service.PasswordChange service.Kdc x y = absurd (y.0 x)
one_look octets service.PasswordChange service.PasswordChange x y = refl

look_or_none : (octets : List ℕ) (a : Service) → LooksLike octets a → LooksLikeNone octets → ⊥
look_or_none octets service.Kdc x n = elim x.1 [ inl y ↦ n.1 y | inr y ↦ n.2 y ]
look_or_none octets service.PasswordChange x n = n.0 x

module _ (t : RequestTypes) (tags : RequestTags t) where
  looks : (octets : List ℕ) (a : Asked) → Asks t octets a → LooksLike octets a.service
  looks octets a (inl x) = subst (λ (s : Service). LooksLike octets s) (sym (ap (λ (v : Asked). v.service) x.1.asks)) x.0
  looks octets a (inr x) = elim x.1 [
    | inl y ↦ subst (λ (s : Service). LooksLike octets s) (sym (ap (λ (v : Asked). v.service) y.2)) (x.0, inl (tagged t.as_req 106 tags.as_req octets y.0 y.1.encodes))
    | inr y ↦ subst (λ (s : Service). LooksLike octets s) (sym (ap (λ (v : Asked). v.service) y.2)) (x.0, inr (tagged t.tgs_req 108 tags.tgs_req octets y.0 y.1.encodes))
  ]

  module _ (proxy : EncodingOf KdcProxyMessage) where
    pub same_lenient : (octets : List ℕ) (r : ProxyRequest) (s : LenientRequest) → IsRequest proxy t octets r → IsLenientRequest proxy octets s
        → (r.service ≡ s.service) × (r.target_domain ≡ s.target_domain) × (r.hint ≡ s.hint) × (r.stream.now ≡ s.stream.now) × (r.datagram.now ≡ s.datagram.now)
        × (r.offset ≡ s.offset)
    same_lenient octets r s p q =
        let same = one_value proxy octets p.message q.message p.posted.1 q.posted.1 in
        let one = one_datagram t tags proxy octets p.datagram q.datagram p.message q.message p.posted.1 q.posted.1 p.prefix q.prefix in
        let domain : Some r.target_domain ≡ Some s.target_domain = sym p.carried.domain ∙ ap (λ (v : KdcProxyMessage). v.target_domain.0) same ∙ q.looked_at.domain in (
          one_look q.datagram r.service s.service (looks q.datagram (asked_by r) (subst (λ (l : List ℕ). Asks t l (asked_by r)) one p.carried.asks)) q.looked_at.looks,
          cc,
          sym p.carried.hint ∙ ap (λ (v : KdcProxyMessage). v.dclocator_hint.0) same ∙ q.looked_at.hint,
          p.carried.stream_is ∙ ap (λ (v : KdcProxyMessage). v.kerb_message) same ∙ sym q.looked_at.stream_is,
          p.carried.datagram_is ∙ one ∙ sym q.looked_at.datagram_is,
          one_offset octets p.datagram q.datagram r.offset s.offset p.stands q.stands,
        )

    pub lenient_takes : (octets : List ℕ) (r : ProxyRequest) (error : ProxyError) → IsRequest proxy t octets r → IsNoLenientRequest proxy octets error → ⊥
    lenient_takes octets r error q (inl n) = let m = not_posted t tags proxy octets q.message error q.posted.1 n in omega (arith, m.1, q.posted.0)
    lenient_takes octets r error q (inr n) =
        let same = one_value proxy octets q.message n.0 q.posted.1 n.1.1 in
        elim n.2 [
          | inl other ↦ prefixed_is n.0.kerb_message q.datagram error (subst (λ (v : KdcProxyMessage). IsPrefixed v.kerb_message q.datagram) same q.prefix) other
          | inr other ↦ elim other.2 [
            | inl absent ↦ let e : Some r.target_domain ≡ None = sym q.carried.domain ∙ ap (λ (v : KdcProxyMessage). v.target_domain.0) same ∙ absent.1 in cc
            | inr none ↦
                let one = one_datagram t tags proxy octets q.datagram other.0 q.message n.0 q.posted.1 n.1.1 q.prefix other.1 in
                look_or_none other.0 r.service (looks other.0 (asked_by r) (subst (λ (l : List ℕ). Asks t l (asked_by r)) one q.carried.asks)) none.3
          ]
        ]
