-- What is answered of the items of a request: they are told, they do not fit, or memory was wanting.
use Rattle.std.proofs.Common.{◌≡◌, ℕ, ◌≤◌, List, codes, take, drop, refl, sym, subst, ◌∙◌, inl, inr, arith}
use Rattle.krb_der_core.specs.declared.der.DerEncode.{Ghosts as EncodingOf}
use Rattle.krb_messages.specs.declared.messages.proxy.KdcProxyMessage.{KdcProxyMessage}
use Rattle.krb_messages.specs.declared.messages.requests.KdcReq.{KdcReq}
use Rattle.krb_kdc_proxy.specs.declared.asked.Service.{Service}
use Rattle.krb_kdc_proxy.specs.declared.asked.Service.TheVariants as service
use Rattle.krb_kdc_proxy.specs.declared.frame.Direction.TheVariants as direction
use Rattle.krb_kdc_proxy.specs.Frames.{IsFrame}
use Rattle.krb_kdc_proxy.specs.Requests.{IsTagged, RequestTypes, asked_by}
use Rattle.krb_c_calls.specs.Items.{IsItemsAnswer, RefusesItems}
use Rattle.krb_c_calls.specs.Posted.{service_number}
use Rattle.krb_c_calls.specs.Requests.{IsTold}
use Rattle.krb_c_calls.specs.declared.items.record.ItemRecord.{ItemRecord}
use Rattle.krb_c_calls.specs.declared.proxies.posted.PostedRecord.{PostedRecord}
use Rattle.krb_show_row_laws.specs.Ties.{HasItsRow}
use Rattle.krb_c.specs.RequestItems.{IsKdcType}
use Rattle.krb_c.proofs.RequestEncodings.{frame_alone, kdc_alone}
use Rattle.krb_c.proofs.RequestItems.{message_is}

is_kdc : (s : Service) → service_number s ≡ 1 → s ≡ service.Kdc
is_kdc service.Kdc e = refl
is_kdc service.PasswordChange e = absurd (omega (arith, e))

is_change : (s : Service) → (service_number s ≡ 1 → ⊥) → s ≡ service.PasswordChange
is_change service.Kdc other = absurd (other refl)
is_change service.PasswordChange other = refl

items_status : (type_name octets : List ℕ) (before after : List ItemRecord) (count offset status : ℕ) → (RefusesItems type_name octets status offset → status ≡ 2)
    → IsItemsAnswer type_name octets before after count offset status → status ≤ 2
items_status type_name octets before after count offset status alone (inl (items, are, (counted, inl put), at)) = let e = put.0 in omega (arith, e)
items_status type_name octets before after count offset status alone (inl (items, are, (counted, inr put), at)) = let e = put.0 in omega (arith, e)
items_status type_name octets before after count offset status alone (inr (refuses, none, kept)) = let e = alone refuses in omega (arith, e)

module _ (proxy : EncodingOf KdcProxyMessage) (t : RequestTypes) (octets : List ℕ) (told : PostedRecord) (it : IsTold proxy t octets told) (message : List ℕ)
    (there : message ≡ take told.message_size (drop told.message_offset octets)) where
  is_datagram : message ≡ it.is_request.datagram
  is_datagram = there ∙ message_is proxy t octets told it ∙ it.is_request.carried.datagram_is

  pub kdc_status : ((v : KdcReq) → t.as_req.is_value v → IsTagged 106 (t.as_req.enc v)) → ((v : KdcReq) → t.tgs_req.is_value v → IsTagged 108 (t.tgs_req.enc v))
      → HasItsRow t.as_req (codes "AS-REQ") → HasItsRow t.tgs_req (codes "TGS-REQ") → told.service ≡ 1 → (type_name : List ℕ) → IsKdcType message type_name
      → (before after : List ItemRecord) (count offset status : ℕ) → IsItemsAnswer type_name message before after count offset status → status ≤ 2
  kdc_status as_tag tgs_tag as_row tgs_row kdc type_name kind before after count offset status answer =
      let K : List ℕ → Type 0 = λ l. IsKdcType l type_name in
      let R : List ℕ → Type 0 = λ l. RefusesItems type_name l status offset in
      items_status type_name message before after count offset status
      (λ refuses. kdc_alone t as_tag tgs_tag it.is_request.datagram type_name (asked_by it.request) status offset as_row tgs_row it.is_request.carried.asks
      (is_kdc it.request.service (sym it.tells.service ∙ kdc)) (subst K is_datagram kind) (subst R is_datagram refuses))
      answer

  pub frame_status : HasItsRow t.ap_req (codes "AP-REQ") → (told.service ≡ 1 → ⊥) → (first : List ℕ)
      → ((second : List ℕ) × IsFrame direction.Request message first second) → (before after : List ItemRecord) (count offset status : ℕ)
      → IsItemsAnswer (codes "AP-REQ") first before after count offset status → status ≤ 2
  frame_status row other first framed before after count offset status answer =
      let F : List ℕ → Type 0 = λ l. IsFrame direction.Request l first framed.0 in
      items_status (codes "AP-REQ") first before after count offset status
      (λ refuses. frame_alone t it.is_request.datagram first (asked_by it.request) status offset row it.is_request.carried.asks
      (is_change it.request.service (λ kdc. other (it.tells.service ∙ kdc))) (framed.0, subst F is_datagram framed.1) refuses)
      answer
