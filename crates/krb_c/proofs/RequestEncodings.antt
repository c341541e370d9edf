-- The messages of a request have items: only memory may be wanting.
use Rattle.std.proofs.Common.{◌≡◌, ℕ, List, ◌∷◌, codes, refl, sym, ap, subst, ◌∙◌, inl, inr, arith}
use Rattle.std.proofs.lemmas.Grind.{common_steps}
use Rattle.krb_der_core.specs.Tlv.{tlv}
use Rattle.krb_messages.specs.declared.messages.requests.KdcReq.{KdcReq}
use Rattle.krb_kdc_proxy.specs.declared.asked.Asked.{Asked}
use Rattle.krb_kdc_proxy.specs.declared.asked.Service.{Service}
use Rattle.krb_kdc_proxy.specs.declared.asked.Service.TheVariants as service
use Rattle.krb_kdc_proxy.specs.declared.frame.Direction.TheVariants as direction
use Rattle.krb_kdc_proxy.specs.Frames.{IsFrame}
use Rattle.krb_kdc_proxy.specs.Requests.{Asks, IsTagged, RequestTypes}
use Rattle.krb_kdc_proxy.proofs.OneFrame.{one_frame}
use Rattle.krb_c.specs.RequestItems.{IsKdcType}
use Rattle.krb_c_calls.specs.Items.{RefusesItems}
use Rattle.krb_show_row_laws.specs.Ties.{HasItsRow}
use Rattle.krb_c.proofs.EncodingItems.{memory_alone}

other_service : (s : Service) → s ≡ service.PasswordChange → s ≡ service.Kdc → ⊥
other_service s e f = grind (arith, common_steps)

other_tag : (a b : List ℕ) → 106 ∷ a ≡ 108 ∷ b → ⊥
other_tag a b e = grind (arith, common_steps)

-- an element begins with its tag
pub begins_with : (tag : ℕ) (content : List ℕ) → IsTagged tag (tlv tag content)
unfolding tlv
begins_with tag content = (_, refl)

module _ (t : RequestTypes) (as_tag : (v : KdcReq) → t.as_req.is_value v → IsTagged 106 (t.as_req.enc v))
    (tgs_tag : (v : KdcReq) → t.tgs_req.is_value v → IsTagged 108 (t.tgs_req.enc v)) where
  pub kdc_alone : (datagram type_name : List ℕ) (asked : Asked) (status offset : ℕ) → HasItsRow t.as_req (codes "AS-REQ")
      → HasItsRow t.tgs_req (codes "TGS-REQ") → Asks t datagram asked → asked.service ≡ service.Kdc → IsKdcType datagram type_name
      → RefusesItems type_name datagram status offset → status ≡ 2
  kdc_alone datagram type_name asked status offset as_row tgs_row (inl change) kdc kind refuses =
      absurd (other_service asked.service (ap (λ (a : Asked). a.service) change.1.asks) kdc)
  kdc_alone datagram type_name asked status offset as_row tgs_row (inr (other, inl (v, message, asks))) kdc (inl (tagged, named)) refuses =
      let P : List ℕ → Type 0 = λ n. RefusesItems n datagram status offset in
      memory_alone t.as_req (codes "AS-REQ") datagram status offset as_row (v, message.encodes.0, message.encodes.1) (subst P named refuses)
  kdc_alone datagram type_name asked status offset as_row tgs_row (inr (other, inl (v, message, asks))) kdc (inr (untagged, named)) refuses =
      absurd (untagged (subst (λ (l : List ℕ). IsTagged 106 l) (sym message.encodes.1) (as_tag v message.encodes.0)))
  kdc_alone datagram type_name asked status offset as_row tgs_row (inr (other, inr (v, message, asks))) kdc (inl (tagged, named)) refuses =
      let there = tgs_tag v message.encodes.0 in
      absurd (other_tag tagged.0 there.0 (sym tagged.1 ∙ message.encodes.1 ∙ there.1))
  kdc_alone datagram type_name asked status offset as_row tgs_row (inr (other, inr (v, message, asks))) kdc (inr (untagged, named)) refuses =
      let P : List ℕ → Type 0 = λ n. RefusesItems n datagram status offset in
      memory_alone t.tgs_req (codes "TGS-REQ") datagram status offset tgs_row (v, message.encodes.0, message.encodes.1) (subst P named refuses)

pub frame_alone : (t : RequestTypes) (datagram first : List ℕ) (asked : Asked) (status offset : ℕ) → HasItsRow t.ap_req (codes "AP-REQ")
    → Asks t datagram asked → asked.service ≡ service.PasswordChange → ((second : List ℕ) × IsFrame direction.Request datagram first second)
    → RefusesItems (codes "AP-REQ") first status offset → status ≡ 2
frame_alone t datagram first asked status offset row (inl (begins, change)) service_is (second, framed) refuses =
    let same = (one_frame direction.Request datagram first second change.first change.second framed change.framed).0 in
    memory_alone t.ap_req (codes "AP-REQ") first status offset row (change.request, change.is_request.encodes.0, same ∙ change.is_request.encodes.1) refuses
frame_alone t datagram first asked status offset row (inr (other, inl (v, message, asks))) service_is framed refuses =
    absurd (other_service asked.service service_is (ap (λ (a : Asked). a.service) asks))
frame_alone t datagram first asked status offset row (inr (other, inr (v, message, asks))) service_is framed refuses =
    absurd (other_service asked.service service_is (ap (λ (a : Asked). a.service) asks))
