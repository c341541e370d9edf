use Rattle.std.proofs.Common.{arith, ◌∙◌}
use Rattle.krb_kdc_proxy.proofs.Proxies.{leads_there, message_at, message_there, within_place}
use Rattle.krb_kdc_proxy.proofs.request.kerb_message.Goals as goal

pub returns-in-Some : goal.returns-in-Some
returns-in-Some c = λ v e.
    let s = within_place c.args.octets.now c.in-Some.place.offset c.in-Some.place.size _ c.in-Some.ensures.inside (omega arith) in
    (s.0 ∙ message_at v c.args.octets.now c.in-Some.place e c.in-Some.ensures, (leads_there c.args.octets.now c.in-Some.place _ s.0 c.in-Some.ensures, (s.1, s.2)))

pub returns-in-None : goal.returns-in-None
returns-in-None c = λ v e. absurd (message_there v c.args.octets.now e (λ start end. c.in-None.ensures start end))
