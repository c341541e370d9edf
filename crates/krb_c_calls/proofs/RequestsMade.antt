-- Why a client posts nothing.
use Rattle.std.proofs.Common.{◌≡◌, ℕ, List, None, Result, Ok, Err, IsErrAnd, MatchResult, ap, subst, inr}
use Rattle.std.specs.Str.{IsAscii}
use Rattle.krb_der_core.specs.declared.der.DerEncode.{Ghosts as EncodingOf}
use Rattle.krb_messages.specs.declared.messages.proxy.KdcProxyMessage.{KdcProxyMessage}
use Rattle.krb_kdc_proxy.specs.declared.error.ProxyError.{ProxyError}
use Rattle.krb_kdc_proxy.specs.Client.{IsNotWritten}
use Rattle.krb_kdc_proxy.specs.Messages.{OrMemory}
use Rattle.krb_kdc_proxy.specs.Requests.{RequestTypes}
use Rattle.krb_c_calls.specs.Clients.{IsRequestMade, RefusesRequest}
use Rattle.krb_c_calls.specs.ProxyStatuses.{proxy_refusal}
use Rattle.krb_c_calls.specs.Statuses.{refusal_status}
use Rattle.krb_c_calls.specs.declared.call_error.CallError.{CallError}

pub request_refused : {V : Type 0} (proxy : EncodingOf KdcProxyMessage) (t : RequestTypes) (message domain realm : List ℕ) (made : Result V CallError) (items : V → List ℕ) (e : ProxyError)
    → realm ≡ domain → IsAscii domain → OrMemory (IsNotWritten proxy t message realm None) e → IsErrAnd made (λ y. y ≡ proxy_refusal e)
    → MatchResult made (λ v. IsRequestMade proxy t message domain (items v)) (λ y. RefusesRequest proxy t message domain (refusal_status y))
request_refused proxy t message domain realm (Ok v) items e same ascii rejected is = absurd is
request_refused proxy t message domain realm (Err y) items e same ascii rejected is =
    let why = subst (λ (d : List ℕ). OrMemory (IsNotWritten proxy t message d None) e) same rejected in
    inr (inr (ascii, (e, why, ap refusal_status is)))
