use Rattle.std.proofs.Common.{sym, ◌∙◌}
use Rattle.krb_c_accept.proofs.Errors.{for_key}
use Rattle.krb_c_accept.proofs.error_message.message_for.Goals as goal

pub returns-in-Some : goal.returns-in-Some
returns-in-Some c =
    for_key _ c.args.asked c.args.keytab.now c.in_ok-keys.keys.items c.in-Some._others.now c.in-Some.key.now c.message_of.result c.in_ok-keys.ensures.found
    (sym c.deref.ensures.value ∙ c.in-Some.ensures.cases.0) c.message_of.ensures.made c.message_of.ensures.refused
