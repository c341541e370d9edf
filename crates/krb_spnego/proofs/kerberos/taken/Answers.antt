use Rattle.std.proofs.Common.{sym}
use Rattle.krb_spnego.proofs.Refusals.{without_turn}
use Rattle.krb_spnego.proofs.kerberos.taken.Goals as goal

pub returns-in-Err-clause-refused : goal.returns-in-Err-clause-refused
returns-in-Err-clause-refused c =
    without_turn _ _ _ _ c.args.acceptor.now c.args.token.now c.in_ok-client.client c.in-Err.error c.in_ok-client.ensures.found
    (rw (sym c.deref.ensures.value) c.in-Err.ensures.refused)

pub returns-in-Ok-clause-taken : goal.returns-in-Ok-clause-taken
returns-in-Ok-clause-taken c =
    (c.in_ok-client.ensures.found, c.in-Ok.ensures.made.0, rw (sym c.deref.ensures.value) c.in-Ok.ensures.made.1)
