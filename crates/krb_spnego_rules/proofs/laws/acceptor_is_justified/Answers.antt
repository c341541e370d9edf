use Rattle.std.proofs.Common.{refl}
use Rattle.krb_spnego_rules.specs.declared.acceptor.Acceptor.TheVariants as acceptors
use Rattle.krb_spnego_rules.proofs.Accepting.{acceptor_offered, acceptor_step}
use Rattle.krb_spnego_rules.proofs.WholeRuns.{acceptor_failed, acceptor_run}
use Rattle.krb_spnego_rules.proofs.laws.acceptor_is_justified.Goals as goal

pub returns-clause-offered : goal.returns-clause-offered
returns-clause-offered g c = acceptor_offered g.M.Mechanism.meaning g.met.M.Mechanism.steady

pub returns-clause-run : goal.returns-clause-run
returns-clause-run g c = acceptor_run g.M.Mechanism.meaning g.met.M.Mechanism.steady

pub returns-clause-sent : goal.returns-clause-sent
returns-clause-sent g c = λ mechanisms received state came before message result h s.
    (acceptor_step g.M.Mechanism.meaning g.met.M.Mechanism.steady mechanisms received state came before message result h s).1

pub returns-clause-failed : goal.returns-clause-failed
returns-clause-failed g c = λ refusal messages after run.
    acceptor_failed g.M.Mechanism.meaning refusal (acceptors.Failed refusal) messages after refl run
