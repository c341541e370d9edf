use Rattle.std.proofs.Common.{◌≡◌, ℕ, ℤ, List, Option, inl, inr, subst}
use Rattle.std.proofs.lemmas.Result.{err_from_is_err_and}
use Rattle.krb_client.specs.Bodies.{Wanted, wanted}
use Rattle.krb_client.specs.Errors.{IsMemoryOr}
use Rattle.krb_client.specs.KdcRequests.{IsNoTgsRequest}
use Rattle.krb_client.specs.Sealed.{key_of}
use Rattle.krb_client.specs.declared.requests.authenticator.Sender.{Sender}
use Rattle.krb_client.specs.declared.requests.error.RequestError.{RequestError}
use Rattle.krb_client_rules.specs.declared.asked.Asked.{Asked}
use Rattle.krb_client_rules.specs.declared.key.Key.{Key}
use Rattle.krb_client.specs.Moments.{confounder_of}
use Rattle.krb_client.specs.Requests.{IsNoServiceRequest, IsSenderOf, wanted_of}
use Rattle.krb_client.specs.declared.moment.Moment.{Moment}
use Rattle.krb_client.specs.declared.terms.ByTicket.{ByTicket}
use Rattle.krb_client.specs.declared.terms.Terms.{Terms}
use Rattle.krb_client.proofs.service_request.service_request.Goals as goal

-- why there is no request of this sender
of_sender : (terms : Terms) (by : ByTicket) (a : Asked) (subkey : Key) (offset : Option ℤ) (m : Moment) (e : RequestError) (s : Sender)
    → IsSenderOf a subkey offset m s
    → IsMemoryOr e (IsNoTgsRequest (wanted_of terms a m.nonce) (key_of by.session) s (confounder_of by.session.suite.now m.random) e)
    → IsMemoryOr e (IsNoServiceRequest terms by a subkey offset m e)
of_sender terms by a subkey offset m e s is (inl memory) = inl memory
of_sender terms by a subkey offset m e s is (inr none) = inr (s, is, none)

-- the same, of what was wanted and of the confounder
refused : (terms : Terms) (by : ByTicket) (a : Asked) (subkey : Key) (offset : Option ℤ) (m : Moment) (e : RequestError) (s : Sender)
    → IsSenderOf a subkey offset m s → (w : Wanted) (confounder : List ℕ) → w ≡ wanted_of terms a m.nonce
    → confounder ≡ confounder_of by.session.suite.now m.random → IsMemoryOr e (IsNoTgsRequest w (key_of by.session) s confounder e)
    → IsMemoryOr e (IsNoServiceRequest terms by a subkey offset m e)
refused terms by a subkey offset m e s is w confounder wanted_is confounder_is told =
    of_sender terms by a subkey offset m e s is
    (subst (λ (x : Wanted). IsMemoryOr e (IsNoTgsRequest x (key_of by.session) s (confounder_of by.session.suite.now m.random) e)) wanted_is
    (subst (λ (k : List ℕ). IsMemoryOr e (IsNoTgsRequest w (key_of by.session) s k e)) confounder_is told))

pub returns-clause-made : goal.returns-clause-made
returns-clause-made c = record {
  sender = c.sender_of-sender.result;
  is_sender = c.sender_of-sender.ensures;
  is_request = rw (c.want_of-want.ensures, c.confounder_of-confounder.ensures) at c.in_ok-octets.ensures.made;
}

pub returns-in_err-octets-clause-rejected : goal.returns-in_err-octets-clause-rejected
returns-in_err-octets-clause-rejected c =
    let p = err_from_is_err_and c.from_residual.result c.from_residual.ensures.1 in
    rw (p.1, p.2) (refused c.args.terms.now c.args.by.now c.args.asked.now c.args.subkey.now c.args.offset.now c.args.moment.now c.in_err-octets.field-0.0
    c.sender_of-sender.result c.sender_of-sender.ensures (wanted c.want_of-want.result) c.confounder_of-confounder.result.now c.want_of-want.ensures
    c.confounder_of-confounder.ensures c.in_err-octets.ensures.rejected)
