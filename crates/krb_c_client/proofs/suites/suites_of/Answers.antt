use Rattle.std.proofs.Common.{inr}
use Rattle.std.proofs.lemmas.Result.{err_from_is_err_and}
use Rattle.krb_c_client.proofs.SuiteLists.{none_at, one_more}
use Rattle.krb_c_client.proofs.suites.suites_of.Goals as goal

pub returns-in_err-suite-clause-refused : goal.returns-in_err-suite-clause-refused
returns-in_err-suite-clause-refused c =
    let p = err_from_is_err_and c.from_residual.result c.from_residual.ensures.1 in
    rw (p.1, p.2)
    (inr (c.in_err-suite.ensures.0, none_at c.args.etypes.now c.loop-etype.etype-index c.loop-etype-test.true c.in_err-suite.ensures.1))

pub loop-etype-preserved : goal.loop-etype-preserved
loop-etype-preserved c =
    one_more c.args.etypes.now c.loop-etype.etype-index c.loop-etype.suites.items c.push.new.suites.items c.in_ok-suite.suite c.loop-etype-test.true
    c.loop-etype.invariant c.in_ok-push.ensures c.in_ok-suite.ensures
