use Rattle.std.proofs.Common.{refl, arith}
use Rattle.krb_kdc_proxy.specs.Prefixed.{prefixed}
use Rattle.krb_kdc_proxy.proofs.Postings.{posted}
use Rattle.krb_kdc_proxy.proofs.reply.write_reply_datagram.Goals as goal

pub returns-clause-found : goal.returns-clause-found
returns-clause-found c =
    posted (λ o. o.items) _ _ c.posting.result (prefixed c.args.octets.now) c.args.octets.now c.in_ok-behind.field-0.items c.in_ok-reply_of.field-0
    c.posting.ensures.found c.in_ok-behind.ensures (record { prefix = (omega arith, refl); is_reply = c.in_ok-reply_of.ensures.found })
