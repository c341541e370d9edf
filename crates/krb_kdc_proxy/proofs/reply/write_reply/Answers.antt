use Rattle.krb_kdc_proxy.proofs.Postings.{some_posted}
use Rattle.krb_kdc_proxy.proofs.reply.write_reply.Goals as goal

pub returns-clause-found : goal.returns-clause-found
returns-clause-found c =
    some_posted (λ o. o.items) _ _ c.posting.result c.args.octets.now c.in_ok-stream_reply.field-0.1.now c.in_ok-from_slice.field-0.items c.in_ok-stream_reply.field-0.0
    c.posting.ensures.found c.in_ok-from_slice.ensures.items c.in_ok-stream_reply.ensures.found
