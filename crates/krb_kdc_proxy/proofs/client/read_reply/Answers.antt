use Rattle.std.proofs.Common.{refl}
use Rattle.std.proofs.lemmas.Result.{err_from_is_err_and}
use Rattle.krb_kdc_proxy.proofs.ProxyReplies.{held_none, held_reply}
use Rattle.krb_kdc_proxy.proofs.client.read_reply.Goals as goal

pub returns-in_err-reply-clause-rejected : goal.returns-in_err-reply-clause-rejected
returns-in_err-reply-clause-rejected c =
    let message = c.in_ok-proxy_message.field-0 in
    let encodes = c.in_ok-proxy_message.ensures.found in
    let p = err_from_is_err_and c.from_residual-in_err-reply.result c.from_residual-in_err-reply.ensures.1 in
    rw (p.1, p.2) (held_none _ _ c.args.octets.now c.kerb_message-start.result.1.now message _ encodes (c.kerb_message-start.ensures message encodes.1).0 c.in_err-reply.ensures.rejected)

pub returns-clause-found : goal.returns-clause-found
returns-clause-found c =
    let message = c.in_ok-proxy_message.field-0 in
    let encodes = c.in_ok-proxy_message.ensures.found in
    held_reply _ _ c.args.octets.now c.kerb_message-start.result.0 message _ encodes (c.kerb_message-start.ensures message encodes.1) c.in_ok-reply.ensures.found refl
