use Rattle.std.proofs.lemmas.Result.{IfOk-weaker, err_from_is_err_and}
use Rattle.krb_kdc_proxy.proofs.Requests.{carried_request, not_prefixed}
use Rattle.krb_kdc_proxy.proofs.request.read_request.Goals as goal

pub returns-in_err-datagram-clause-rejected : goal.returns-in_err-datagram-clause-rejected
returns-in_err-datagram-clause-rejected c =
    let p = err_from_is_err_and c.from_residual-in_err-datagram.result c.from_residual-in_err-datagram.ensures.1 in
    rw (p.1, p.2) (not_prefixed _ _ c.args.octets.now c.kerb_message-start.result.1.now c.in_ok-message.message _ c.in_ok-message.ensures.found (c.kerb_message-start.ensures c.in_ok-message.message c.in_ok-message.ensures.found.1.1).0 c.in_err-datagram.ensures.rejected)

pub returns-clause-found : goal.returns-clause-found
returns-clause-found c =
    let message = c.in_ok-message.message in
    let posted = c.in_ok-message.ensures.found in
    IfOk-weaker c.request_of.result _ _ (λ r is. carried_request _ _ c.args.octets.now c.kerb_message-start.result.1.now c.in_ok-datagram.datagram.now c.kerb_message-start.result.0 message r
    posted (c.kerb_message-start.ensures message posted.1.1) c.in_ok-datagram.ensures.found is) c.request_of.ensures.found
