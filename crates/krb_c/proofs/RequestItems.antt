-- The message of a request, where it was told that it stands.
use Rattle.std.proofs.Common.{◌≡◌, ℕ, ◌+◌, ◌<◌, ◌≤◌, List, codes, length, take, drop, refl, sym, ap, subst, ◌∙◌, inl, inr, arith}
use Rattle.krb_der_core.specs.declared.der.DerEncode.{Ghosts as EncodingOf}
use Rattle.krb_messages.specs.declared.messages.proxy.KdcProxyMessage.{KdcProxyMessage}
use Rattle.krb_kdc_proxy.specs.declared.asked.Asked.{Asked}
use Rattle.krb_kdc_proxy.specs.declared.asked.Service.{Service}
use Rattle.krb_kdc_proxy.specs.declared.asked.Service.TheVariants as service
use Rattle.krb_kdc_proxy.specs.declared.error.ProxyError.{ProxyError}
use Rattle.krb_kdc_proxy.specs.declared.frame.Direction.TheVariants as direction
use Rattle.krb_kdc_proxy.specs.Frames.{IsFrame}
use Rattle.krb_kdc_proxy.specs.Requests.{Asks, RequestTypes, asked_by}
use Rattle.krb_c_calls.specs.Posted.{service_number}
use Rattle.krb_c_calls.specs.ProxyStatuses.{Refuses}
use Rattle.krb_c_calls.specs.Requests.{IsRequestTold, IsTold}
use Rattle.krb_c_calls.specs.Statuses.{refusal_status}
use Rattle.krb_c_calls.specs.declared.call_error.CallError.{CallError}
use Rattle.krb_c_calls.specs.declared.call_error.CallError.TheVariants as refusals
use Rattle.krb_c_calls.specs.declared.proxies.posted.PostedRecord.{PostedRecord}
use Rattle.krb_c.specs.RequestItems.{IsItemized, IsKdcType}

-- no refusal is done
is_past : (e : CallError) → 0 < refusal_status e
is_past refusals.Memory = omega arith
is_past refusals.Number = omega arith
is_past refusals.ConfounderSize = omega arith
is_past refusals.KeySize = omega arith
is_past refusals.SealedSize = omega arith
is_past refusals.Integrity = omega arith
is_past refusals.Padding = omega arith
is_past refusals.Invalid = omega arith
is_past refusals.Truncated = omega arith
is_past refusals.Unsupported = omega arith
is_past refusals.Never = omega arith
is_past refusals.SeedSize = omega arith
is_past refusals.Empty = omega arith
is_past refusals.Direction = omega arith
is_past refusals.Token = omega arith
is_past refusals.Subkey = omega arith
is_past refusals.SealedMic = omega arith
is_past refusals.SealedHeader = omega arith
is_past refusals.Absent = omega arith
is_past refusals.TooLarge = omega arith
is_past refusals.TooDeep = omega arith
is_past refusals.Keytab = omega arith
is_past refusals.OtherVersion = omega arith
is_past refusals.PacType = omega arith
is_past refusals.PacRange = omega arith
is_past refusals.FrameSize = omega arith
is_past refusals.ProxyTooLarge = omega arith
is_past refusals.ProxyNoLength = omega arith
is_past refusals.ProxyOtherLength = omega arith
is_past refusals.ProxyNoDomain = omega arith
is_past refusals.ProxyOtherKind = omega arith
is_past refusals.ProxyFrameLength = omega arith
is_past refusals.ProxyInvalid = omega arith
is_past refusals.ProxyTruncated = omega arith
is_past refusals.ProxyUnsupported = omega arith
is_past refusals.ProxyPvno = omega arith
is_past refusals.ProxyMsgType = omega arith
is_past refusals.NotAccepted = omega arith

not_done : (rule : ProxyError → Type 0) (status : ℕ) → Refuses rule status → status ≡ 0 → ⊥
not_done rule status (error, why, is) done = let past = subst (λ (n : ℕ). 0 < n) (sym is) (is_past _) in omega (arith, past, done)

module _ (proxy : EncodingOf KdcProxyMessage) (t : RequestTypes) (octets : List ℕ) (told : PostedRecord) where
  pub is_told : (status : ℕ) → IsRequestTold proxy t octets told status → status ≡ 0 → IsTold proxy t octets told
  is_told status (inl is) done = is.1
  is_told status (inr why) done = absurd (not_done _ status why.0 done)

  pub message_within : IsTold proxy t octets told → told.message_offset + told.message_size ≤ length octets
  message_within it =
      let long = it.tells.message_size ∙ ap length it.is_request.carried.datagram_is in
      let stands = it.is_request.stands.alone.1 in
      omega (arith, long, it.tells.message_offset, stands)

  pub message_is : (it : IsTold proxy t octets told) → take told.message_size (drop told.message_offset octets) ≡ it.request.datagram.now
  message_is it =
      let same = it.is_request.carried.datagram_is in
      let long = it.tells.message_size ∙ ap length same in
      ap (λ (n : ℕ). take n (drop told.message_offset octets)) long ∙ ap (λ (n : ℕ). take (length it.is_request.datagram) (drop n octets)) it.tells.message_offset
      ∙ it.is_request.stands.alone.0 ∙ sym same

of_kdc : (s : Service) (datagram message type_name : List ℕ) → service_number s ≡ 1 → message ≡ datagram → IsKdcType message type_name
    → IsItemized s datagram type_name message
of_kdc service.Kdc datagram message type_name is same kind = (subst (λ (l : List ℕ). IsKdcType l type_name) same kind, same)
of_kdc service.PasswordChange datagram message type_name is same kind = absurd (omega (arith, is))

of_frame : (s : Service) (datagram message first : List ℕ) → (service_number s ≡ 1 → ⊥) → message ≡ datagram
    → ((second : List ℕ) × IsFrame direction.Request message first second) → IsItemized s datagram (codes "AP-REQ") first
of_frame service.Kdc datagram message first other same framed = absurd (other refl)
of_frame service.PasswordChange datagram message first other same framed =
    (refl, (framed.0, subst (λ (l : List ℕ). IsFrame direction.Request l first framed.0) same framed.1))

-- what is not for a KDC is a frame
frame_of : (t : RequestTypes) (datagram : List ℕ) (asked : Asked) → Asks t datagram asked → (service_number asked.service ≡ 1 → ⊥)
    → (first : List ℕ) × (second : List ℕ) × IsFrame direction.Request datagram first second
frame_of t datagram asked (inl change) other = (change.1.first, change.1.second, change.1.framed)
frame_of t datagram asked (inr (none, inl request)) other = absurd (other (ap (λ (a : Asked). service_number a.service) request.2))
frame_of t datagram asked (inr (none, inr request)) other = absurd (other (ap (λ (a : Asked). service_number a.service) request.2))

module _ (proxy : EncodingOf KdcProxyMessage) (t : RequestTypes) (octets : List ℕ) (told : PostedRecord) (it : IsTold proxy t octets told) (message : List ℕ)
    (there : message ≡ take told.message_size (drop told.message_offset octets)) where
  pub kdc_itemized : (type_name : List ℕ) → told.service ≡ 1 → IsKdcType message type_name
      → IsItemized it.request.service it.request.datagram.now type_name message
  kdc_itemized type_name kdc kind =
      of_kdc it.request.service it.request.datagram.now message type_name (sym it.tells.service ∙ kdc) (there ∙ message_is proxy t octets told it) kind

  pub frame_there : (told.service ≡ 1 → ⊥) → (first : List ℕ) × (second : List ℕ) × IsFrame direction.Request message first second
  frame_there other =
      let same = there ∙ message_is proxy t octets told it ∙ it.is_request.carried.datagram_is in
      let framed = frame_of t it.is_request.datagram (asked_by it.request) it.is_request.carried.asks (λ kdc. other (it.tells.service ∙ kdc)) in
      (framed.0, framed.1, subst (λ (l : List ℕ). IsFrame direction.Request l framed.0 framed.1) (sym same) framed.2)

  pub frame_itemized : (first : List ℕ) → (told.service ≡ 1 → ⊥) → ((second : List ℕ) × IsFrame direction.Request message first second)
      → IsItemized it.request.service it.request.datagram.now (codes "AP-REQ") first
  frame_itemized first other framed =
      of_frame it.request.service it.request.datagram.now message first (λ kdc. other (it.tells.service ∙ kdc)) (there ∙ message_is proxy t octets told it) framed
