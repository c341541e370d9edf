-- What is told of the octets that a client posts to a proxy (MS-KKDCP, 2.2.2), with the items of the message that they hold.
use Rattle.std.specs.Prelude.{◌≡◌, ◌⊎◌, ℕ, ◌≤◌, List, codes}
use Rattle.krb_der_core.specs.declared.der.DerEncode.{Ghosts as EncodingOf}
use Rattle.krb_messages.specs.declared.messages.proxy.KdcProxyMessage.{KdcProxyMessage}
use Rattle.krb_kdc_proxy.specs.declared.asked.Service.{Service}
use Rattle.krb_kdc_proxy.specs.declared.asked.Service.TheVariants as service
use Rattle.krb_kdc_proxy.specs.declared.frame.Direction.TheVariants as direction
use Rattle.krb_kdc_proxy.specs.declared.request.ProxyRequest.{ProxyRequest}
use Rattle.krb_kdc_proxy.specs.Frames.{IsFrame}
use Rattle.krb_kdc_proxy.specs.Requests.{IsNoRequest, IsTagged, RequestTypes}
use Rattle.krb_c_calls.specs.Items.{IsItemsAnswer}
use Rattle.krb_c_calls.specs.Posted.{nothing}
use Rattle.krb_c_calls.specs.ProxyStatuses.{Refuses}
use Rattle.krb_c_calls.specs.Requests.{IsTold}
use Rattle.krb_c_calls.specs.declared.items.record.ItemRecord.{ItemRecord}
use Rattle.krb_c_calls.specs.declared.proxies.posted.PostedRecord.{PostedRecord}

-- the type of a request to a KDC, by its first octet: an AS-REQ (application 10; RFC 4120, 5.4.1), or else a TGS-REQ
abbrev pub IsKdcType : List ℕ → List ℕ → Type 0
IsKdcType octets type_name =
    (IsTagged 106 octets × (type_name ≡ codes "AS-REQ")) ⊎ ((IsTagged 106 octets → ⊥) × (type_name ≡ codes "TGS-REQ"))

-- The message whose items are told, and its type: of what is for a KDC the whole; of a frame (RFC 3244, 2) its first message, an AP-REQ.
abbrev pub IsItemized : Service → List ℕ → List ℕ → List ℕ → Type 0
IsItemized service.Kdc datagram type_name octets = IsKdcType datagram type_name × (octets ≡ datagram)
IsItemized service.PasswordChange datagram type_name octets =
    (type_name ≡ codes "AP-REQ") × ((second : List ℕ) × IsFrame direction.Request datagram octets second)

-- This is answered of the items of this request: they are told (0), they do not fit (1), or memory was wanting (2); no request is without items.
pub record AreItemsTold (r : ProxyRequest) (before after : List ItemRecord) (count status : ℕ) : Type 0 where
  pub type_name : List ℕ
  pub message : List ℕ
  pub itemized : IsItemized r.service r.datagram.now type_name message
  pub offset : ℕ
  pub answer : IsItemsAnswer type_name message before after count offset status
  pub has_items : status ≤ 2

-- The octets are a request, of which this is told, and the answer is that of its items; or they are refused, nothing is told, and the items are as they were.
abbrev pub IsRequestItemsTold : EncodingOf KdcProxyMessage → RequestTypes → List ℕ → PostedRecord → List ItemRecord → List ItemRecord → ℕ → ℕ
    → Type 0
IsRequestItemsTold proxy t octets told before after count status =
    ((it : IsTold proxy t octets told) × AreItemsTold it.request before after count status)
    ⊎ (Refuses (IsNoRequest proxy t octets) status × (told ≡ nothing) × (count ≡ 0) × (after ≡ before))
