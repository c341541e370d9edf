use Rattle.std.proofs.lemmas.Result.{err_from_is_err_and}
use Rattle.krb_accept_rules.specs.Texts.{IsRealm}
use Rattle.jolmurig.specs.declared.failure.Failure.TheVariants as failure
use Rattle.jolmurig.proofs.TermLists.{next, refused_at}
use Rattle.jolmurig.proofs.terms.realms_of.Goals as goal

pub texts-preserved : goal.texts-preserved
texts-preserved c =
    rw c.in_ok-push.ensures (next IsRealm c.args.texts.now c.texts.text-index c.texts.realms.items c.text-item.result c.in_ok-realm.realm c.texts-test.true
    c.text-item.is c.texts.invariant (rw (← c.text.view_is) c.in_ok-realm.ensures.found))

pub returns-in_err-realm-clause-rejected : goal.returns-in_err-realm-clause-rejected
returns-in_err-realm-clause-rejected c =
    let p = err_from_is_err_and c.from_residual.result c.from_residual.ensures.1 in
    rw (p.1, p.2) (refused_at IsRealm c.args.texts.now c.texts.text-index c.text-item.result _ failure.Realm c.texts-test.true c.text-item.is
    (rw (← c.text.view_is) c.in_err-realm.ensures.rejected))
