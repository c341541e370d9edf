-- Octets are one request, or none, and never both.
use Rattle.std.proofs.Common.{◌≡◌, ℕ, ℤ, ◌<◌, ◌≤◌, ◌^◌, List, Option, Some, None, length, refl, sym, ap, ◌∙◌, subst, inl, inr, arith}
use Rattle.krb_der_core.specs.declared.der.DerEncode.{Ghosts as EncodingOf}
use Rattle.krb_der.specs.Tags.{HasTag}
use Rattle.krb_messages.specs.declared.messages.proxy.KdcProxyMessage.{KdcProxyMessage}
use Rattle.krb_kdc_proxy.specs.declared.asked.Asked.{Asked}
use Rattle.krb_kdc_proxy.specs.declared.error.ProxyError.{ProxyError}
use Rattle.krb_kdc_proxy.specs.declared.error.ProxyError.TheVariants as errors
use Rattle.krb_kdc_proxy.specs.declared.frame.Direction.TheVariants as direction
use Rattle.krb_kdc_proxy.specs.declared.kind.MessageKind.TheVariants as kind
use Rattle.krb_kdc_proxy.specs.declared.request.ProxyRequest.{ProxyRequest}
use Rattle.krb_kdc_proxy.specs.Asking.{change_asked, kdc_asked}
use Rattle.krb_kdc_proxy.specs.Client.{IsNotWritten, IsWritten, asking}
use Rattle.krb_der.specs.Whole.{Encodes}
use Rattle.krb_kdc_proxy.specs.Messages.{IsMessage, OrMemory}
use Rattle.krb_kdc_proxy.specs.Prefixed.{IsPrefixed}
use Rattle.krb_kdc_proxy.specs.Requests.{Asks, AsksNothing, IsChange, IsKdcRequest, IsNoChange, IsNoKdcRequest, IsNoRequest, IsNotPosted, IsRequest, RequestTypes}
use Rattle.krb_kdc_proxy.specs.Requests.{ap_request_numbers, asked_by, private_numbers, request_numbers}
use Rattle.krb_kdc_proxy.proofs.OneFrame.{one_frame}
use Rattle.krb_kdc_proxy.proofs.OneMessage.{apart, not_both, one_offset, one_prefixed, one_value, prefixed_is, tagged}

-- the first octets of the types
pub record RequestTags (t : RequestTypes) : Type 0 where
  pub as_req : HasTag 106 t.as_req.first
  pub tgs_req : HasTag 108 t.tgs_req.first

module _ (t : RequestTypes) (tags : RequestTags t) where
  -- ---- requests to a KDC

  one_kdc_request : (octets : List ℕ) (a b : Asked) → IsKdcRequest t.as_req t.tgs_req octets a → IsKdcRequest t.as_req t.tgs_req octets b → a ≡ b
  one_kdc_request octets a b (inl x) (inl y) = x.2 ∙ ap kdc_asked (one_value t.as_req octets x.0 y.0 x.1.encodes y.1.encodes) ∙ sym y.2
  one_kdc_request octets a b (inl x) (inr y) =
      absurd (apart 106 108 octets refl (tagged t.as_req 106 tags.as_req octets x.0 x.1.encodes) (tagged t.tgs_req 108 tags.tgs_req octets y.0 y.1.encodes))
  one_kdc_request octets a b (inr x) (inl y) =
      absurd (apart 108 106 octets refl (tagged t.tgs_req 108 tags.tgs_req octets x.0 x.1.encodes) (tagged t.as_req 106 tags.as_req octets y.0 y.1.encodes))
  one_kdc_request octets a b (inr x) (inr y) = x.2 ∙ ap kdc_asked (one_value t.tgs_req octets x.0 y.0 x.1.encodes y.1.encodes) ∙ sym y.2

  kdc_request_or_none : (octets : List ℕ) (a : Asked) (error : ProxyError) → IsKdcRequest t.as_req t.tgs_req octets a → IsNoKdcRequest t.as_req t.tgs_req octets error → ⊥
  kdc_request_or_none octets a error (inl x) n =
      let s = tagged t.as_req 106 tags.as_req octets x.0 x.1.encodes in
      elim n [
        | inl y ↦ not_both t.as_req request_numbers kind.AsReq octets x.0 error x.1 y.1
        | inr rest ↦ elim rest [ inl y ↦ apart 106 108 octets refl s y.0 | inr y ↦ y.1 s ]
      ]
  kdc_request_or_none octets a error (inr x) n =
      let s = tagged t.tgs_req 108 tags.tgs_req octets x.0 x.1.encodes in
      elim n [
        | inl y ↦ apart 108 106 octets refl s y.0
        | inr rest ↦ elim rest [ inl y ↦ not_both t.tgs_req request_numbers kind.TgsReq octets x.0 error x.1 y.1 | inr y ↦ y.2 s ]
      ]

  -- ---- changes of a password

  one_change : (octets : List ℕ) (a b : Asked) → IsChange t.ap_req t.krb_priv octets a → IsChange t.ap_req t.krb_priv octets b → a ≡ b
  one_change octets a b x y =
      let same = one_frame direction.Request octets x.first x.second y.first y.second x.framed y.framed in
      let first : IsMessage t.ap_req ap_request_numbers kind.ApReq y.first x.request = subst (λ (l : List ℕ). IsMessage t.ap_req ap_request_numbers kind.ApReq l x.request) same.0 x.is_request in
      x.asks ∙ ap change_asked (one_value t.ap_req y.first x.request y.request first.encodes y.is_request.encodes) ∙ sym y.asks

  change_or_none : (octets : List ℕ) (a : Asked) (error : ProxyError) → IsChange t.ap_req t.krb_priv octets a → IsNoChange t.ap_req t.krb_priv octets error → ⊥
  change_or_none octets a error x (inl y) = y.1 x.first x.second x.framed
  change_or_none octets a error x (inr y) =
      let same = one_frame direction.Request octets x.first x.second y.0 y.1 x.framed y.2 in
      let first = subst (λ (l : List ℕ). IsMessage t.ap_req ap_request_numbers kind.ApReq l x.request) same.0 x.is_request in
      let second = subst (λ (l : List ℕ). IsMessage t.krb_priv private_numbers kind.KrbPriv l x.private) same.1 x.is_private in
      elim y.3 [
        | inl n ↦ not_both t.ap_req ap_request_numbers kind.ApReq y.0 x.request error first n
        | inr n ↦ not_both t.krb_priv private_numbers kind.KrbPriv y.1 x.private error second n.2
      ]

  -- ---- what a message asks for

  one_asked : (octets : List ℕ) (a b : Asked) → Asks t octets a → Asks t octets b → a ≡ b
  one_asked octets a b (inl x) (inl y) = one_change octets a b x.1 y.1
  one_asked octets a b (inl x) (inr y) = absurd (y.0 x.0)
  one_asked octets a b (inr x) (inl y) = absurd (x.0 y.0)
  one_asked octets a b (inr x) (inr y) = one_kdc_request octets a b x.1 y.1

  asks_or_nothing : (octets : List ℕ) (a : Asked) (error : ProxyError) → Asks t octets a → AsksNothing t octets error → ⊥
  asks_or_nothing octets a error (inl x) (inl y) = change_or_none octets a error x.1 y.1
  asks_or_nothing octets a error (inl x) (inr y) = y.0 x.0
  asks_or_nothing octets a error (inr x) (inl y) = x.0 y.0
  asks_or_nothing octets a error (inr x) (inr y) = kdc_request_or_none octets a error x.1 y.1

  -- ---- requests

  module _ (proxy : EncodingOf KdcProxyMessage) where
    pub not_posted : (octets : List ℕ) (v : KdcProxyMessage) (error : ProxyError) → Encodes proxy octets v → IsNotPosted proxy octets error → (error ≡ errors.TooLarge) × (131072 < length octets)
    not_posted octets v errors.TooLarge e n = (refl, n)
    not_posted octets v (errors.ProxyMessage why) e n = absurd (n.1.none v e)
    not_posted octets v errors.NoLength e n = absurd n
    not_posted octets v errors.OtherLength e n = absurd n
    not_posted octets v errors.NoTargetDomain e n = absurd n
    not_posted octets v errors.OtherKind e n = absurd n
    not_posted octets v errors.FrameLength e n = absurd n
    not_posted octets v (errors.Message k why) e n = absurd n
    not_posted octets v (errors.Pvno k) e n = absurd n
    not_posted octets v (errors.MsgType k) e n = absurd n
    not_posted octets v errors.OutOfMemory e n = absurd n

    -- the datagrams of two messages with one encoding
    pub one_datagram : (octets a b : List ℕ) (v w : KdcProxyMessage) → Encodes proxy octets v → Encodes proxy octets w → IsPrefixed v.kerb_message a → IsPrefixed w.kerb_message b → a ≡ b
    one_datagram octets a b v w e f p q =
        let same = ap (λ (x : KdcProxyMessage). x.kerb_message) (one_value proxy octets v w e f) in
        one_prefixed w.kerb_message a b (subst (λ (l : List ℕ). IsPrefixed l a) same p) q

    pub request_or_none : (octets : List ℕ) (r : ProxyRequest) (error : ProxyError) → IsRequest proxy t octets r → IsNoRequest proxy t octets error → ⊥
    request_or_none octets r error q (inl n) = let m = not_posted octets q.message error q.posted.1 n in omega (arith, m.1, q.posted.0)
    request_or_none octets r error q (inr n) =
        let same = one_value proxy octets q.message n.0 q.posted.1 n.1.1 in
        elim n.2 [
          | inl other ↦ prefixed_is n.0.kerb_message q.datagram error (subst (λ (v : KdcProxyMessage). IsPrefixed v.kerb_message q.datagram) same q.prefix) other
          | inr other ↦ elim other.2 [
            | inl absent ↦ let e : Some r.target_domain ≡ None = sym q.carried.domain ∙ ap (λ (v : KdcProxyMessage). v.target_domain.0) same ∙ absent.1 in cc
            | inr nothing ↦ asks_or_nothing other.0 (asked_by r) error
                (subst (λ (l : List ℕ). Asks t l (asked_by r)) (one_datagram octets q.datagram other.0 q.message n.0 q.posted.1 n.1.1 q.prefix other.1) q.carried.asks) nothing.2
          ]
        ]

    -- two requests of the same octets
    pub same_request : (octets : List ℕ) (r s : ProxyRequest) → IsRequest proxy t octets r → IsRequest proxy t octets s
        → (asked_by r ≡ asked_by s) × (r.target_domain ≡ s.target_domain) × (r.hint ≡ s.hint) × (r.stream.now ≡ s.stream.now) × (r.datagram.now ≡ s.datagram.now)
        × (r.offset ≡ s.offset)
    same_request octets r s p q =
        let same = one_value proxy octets p.message q.message p.posted.1 q.posted.1 in
        let one = one_datagram octets p.datagram q.datagram p.message q.message p.posted.1 q.posted.1 p.prefix q.prefix in
        let domain : Some r.target_domain ≡ Some s.target_domain = sym p.carried.domain ∙ ap (λ (v : KdcProxyMessage). v.target_domain.0) same ∙ q.carried.domain in (
          one_asked q.datagram (asked_by r) (asked_by s) (subst (λ (l : List ℕ). Asks t l (asked_by r)) one p.carried.asks) q.carried.asks,
          cc,
          sym p.carried.hint ∙ ap (λ (v : KdcProxyMessage). v.dclocator_hint.0) same ∙ q.carried.hint,
          p.carried.stream_is ∙ ap (λ (v : KdcProxyMessage). v.kerb_message) same ∙ sym q.carried.stream_is,
          p.carried.datagram_is ∙ one ∙ sym q.carried.datagram_is,
          one_offset octets p.datagram q.datagram r.offset s.offset p.stands q.stands,
        )

    -- ---- what a client writes

    written : (octets datagram domain : List ℕ) (hint : Option ℤ) (r : ProxyRequest) → length datagram < 2 ^ 31 → Encodes proxy octets (asking datagram domain hint)
        → IsRequest proxy t octets r → IsWritten proxy t datagram domain hint octets
    written octets datagram domain hint r short e q =
        let same = one_value proxy octets q.message (asking datagram domain hint) q.posted.1 e in
        let there : Some r.target_domain ≡ Some domain = sym q.carried.domain ∙ ap (λ (v : KdcProxyMessage). v.target_domain.0) same in
        record {
          encodes = e;
          request = r;
          is_request = q;
          datagram_is = q.carried.datagram_is ∙ one_datagram octets q.datagram datagram q.message (asking datagram domain hint) q.posted.1 e q.prefix (short, refl);
          domain_is = cc;
          hint_is = sym q.carried.hint ∙ ap (λ (v : KdcProxyMessage). v.dclocator_hint.0) same;
        }

    not_written : (octets datagram domain : List ℕ) (hint : Option ℤ) (error : ProxyError) → length datagram < 2 ^ 31 → Encodes proxy octets (asking datagram domain hint)
        → OrMemory (IsNoRequest proxy t octets) error → OrMemory (IsNotWritten proxy t datagram domain hint) error
    not_written octets datagram domain hint error short e (inl memory) = inl memory
    not_written octets datagram domain hint error short e (inr (inl n)) =
        let m = not_posted octets (asking datagram domain hint) error e n in
        inr (inl (m.0, subst (λ (l : List ℕ). 131072 < length l) e.1 m.1))
    not_written octets datagram domain hint error short e (inr (inr n)) =
        let same = one_value proxy octets n.0 (asking datagram domain hint) n.1.1 e in
        elim n.2 [
          | inl other ↦ absurd (prefixed_is n.0.kerb_message datagram error (subst (λ (v : KdcProxyMessage). IsPrefixed v.kerb_message datagram) (sym same) (short, refl)) other)
          | inr other ↦ elim other.2 [
            | inl absent ↦ absurd (let f : Some domain ≡ None = sym (ap (λ (v : KdcProxyMessage). v.target_domain.0) same) ∙ absent.1 in cc)
            | inr nothing ↦ inr (inr (
              subst (λ (l : List ℕ). length l ≤ 131072) e.1 n.1.0,
              subst (λ (l : List ℕ). AsksNothing t l error) (one_datagram octets other.0 datagram n.0 (asking datagram domain hint) n.1.1 e other.1 (short, refl)) nothing.2,
            ))
          ]
        ]

    -- the octets that were written are those that were read
    pub taken : (octets shown datagram domain : List ℕ) (hint : Option ℤ) → shown ≡ octets → length datagram < 2 ^ 31 → Encodes proxy octets (asking datagram domain hint)
        → (r : ProxyRequest) × IsRequest proxy t shown r → IsWritten proxy t datagram domain hint octets
    taken octets shown datagram domain hint same short e q =
        written octets datagram domain hint q.0 short e (subst (λ (l : List ℕ). IsRequest proxy t l q.0) same q.1)

    pub not_taken : (octets shown datagram domain : List ℕ) (hint : Option ℤ) (error : ProxyError) → shown ≡ octets → length datagram < 2 ^ 31
        → Encodes proxy octets (asking datagram domain hint) → OrMemory (IsNoRequest proxy t shown) error → OrMemory (IsNotWritten proxy t datagram domain hint) error
    not_taken octets shown datagram domain hint error same short e n =
        not_written octets datagram domain hint error short e (subst (λ (l : List ℕ). OrMemory (IsNoRequest proxy t l) error) same n)
