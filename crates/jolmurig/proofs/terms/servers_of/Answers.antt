use Rattle.std.proofs.lemmas.Result.{err_from_is_err_and}
use Rattle.krb_accept_rules.specs.Texts.{IsServer}
use Rattle.jolmurig.specs.declared.failure.Failure.TheVariants as failure
use Rattle.jolmurig.proofs.TermLists.{next, refused_at}
use Rattle.jolmurig.proofs.terms.servers_of.Goals as goal

pub texts-preserved : goal.texts-preserved
texts-preserved c =
    rw c.in_ok-push.ensures (next IsServer c.args.texts.now c.texts.text-index c.texts.servers.items c.text-item.result c.in_ok-server.server c.texts-test.true
    c.text-item.is c.texts.invariant (rw (← c.text.view_is) c.in_ok-server.ensures.found))

pub returns-in_err-server-clause-rejected : goal.returns-in_err-server-clause-rejected
returns-in_err-server-clause-rejected c =
    let p = err_from_is_err_and c.from_residual.result c.from_residual.ensures.1 in
    rw (p.1, p.2) (refused_at IsServer c.args.texts.now c.texts.text-index c.text-item.result _ failure.Server c.texts-test.true c.text-item.is
    (rw (← c.text.view_is) c.in_err-server.ensures.rejected))
