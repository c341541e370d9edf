-- What is told of the octets that a client posts to a proxy (MS-KKDCP, 2.2.2).
use Rattle.std.specs.Prelude.{◌≡◌, ◌⊎◌, ℕ, List}
use Rattle.krb_der_core.specs.declared.der.DerEncode.{Ghosts as EncodingOf}
use Rattle.krb_messages.specs.declared.messages.proxy.KdcProxyMessage.{KdcProxyMessage}
use Rattle.krb_kdc_proxy.specs.declared.lenient.LenientRequest.{LenientRequest}
use Rattle.krb_kdc_proxy.specs.declared.request.ProxyRequest.{ProxyRequest}
use Rattle.krb_kdc_proxy.specs.Lenient.{IsLenientRequest, IsNoLenientRequest}
use Rattle.krb_kdc_proxy.specs.Requests.{IsNoRequest, IsRequest, RequestTypes}
use Rattle.krb_c_calls.specs.ProxyStatuses.{Refuses}
use Rattle.krb_c_calls.specs.Posted.{IsDomainAt, TellsLenient, TellsRequest, nothing}
use Rattle.krb_c_calls.specs.declared.proxies.posted.PostedRecord.{PostedRecord}

-- this is told of the one request that the octets are
pub record IsTold (proxy : EncodingOf KdcProxyMessage) (t : RequestTypes) (octets : List ℕ) (told : PostedRecord) : Type 0 where
  pub request : ProxyRequest
  pub is_request : IsRequest proxy t octets request
  pub tells : TellsRequest request told
  pub domain : IsDomainAt request.target_domain octets told.domain_offset told.domain_size

-- The octets are a request, of which this is told (0); or they are refused, and nothing is told.
abbrev pub IsRequestTold : EncodingOf KdcProxyMessage → RequestTypes → List ℕ → PostedRecord → ℕ → Type 0
IsRequestTold proxy t octets told status =
    ((status ≡ 0) × IsTold proxy t octets told) ⊎ (Refuses (IsNoRequest proxy t octets) status × (told ≡ nothing))

-- the same, where the first octets of the message alone are looked at
pub record IsLookedTold (proxy : EncodingOf KdcProxyMessage) (octets : List ℕ) (told : PostedRecord) : Type 0 where
  pub request : LenientRequest
  pub is_request : IsLenientRequest proxy octets request
  pub tells : TellsLenient request told
  pub domain : IsDomainAt request.target_domain octets told.domain_offset told.domain_size

abbrev pub IsLenientTold : EncodingOf KdcProxyMessage → List ℕ → PostedRecord → ℕ → Type 0
IsLenientTold proxy octets told status =
    ((status ≡ 0) × IsLookedTold proxy octets told) ⊎ (Refuses (IsNoLenientRequest proxy octets) status × (told ≡ nothing))
