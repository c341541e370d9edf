use Rattle.std.proofs.Common.{ap}
use Rattle.krb_messages.specs.declared.messages.private.KrbPrivInner.{KrbPrivInner}
use Rattle.krb_messages.specs.declared.messages.ap_message.ApMessage.{ApMessage}
use Rattle.krb_messages.specs.declared.kpasswd.frame.KrbPrivMessage.{KrbPrivMessage}
use Rattle.krb_messages.proofs.kpasswd.frame.KrbPrivMessage.deserialize.Goals as goal

pub returns-clause-reads : goal.returns-clause-reads
returns-clause-reads g c = λ m octets rest i lt f q.
    let read = c.in_ok-ap_message.ensures.reads m.ap_message m.krb_priv octets rest i.0 i.1 lt f q in
    let made : ApMessage × KrbPrivInner → KrbPrivMessage = λ p. record { ap_message = p.0; krb_priv = p.1 } in
    (ap made read.0, read.1)
