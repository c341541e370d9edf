use Rattle.std.proofs.Common.{refl}
use Rattle.krb_spnego_rules.specs.declared.initiator.Initiator.TheVariants as initiators
use Rattle.krb_spnego_rules.proofs.Initiating.{initiator_begun, initiator_step}
use Rattle.krb_spnego_rules.proofs.WholeRuns.{initiator_failed, initiator_run}
use Rattle.krb_spnego_rules.proofs.laws.initiator_is_justified.Goals as goal

pub returns-clause-begun : goal.returns-clause-begun
returns-clause-begun g c = initiator_begun g.M.Mechanism.meaning g.met.M.Mechanism.steady

pub returns-clause-run : goal.returns-clause-run
returns-clause-run g c = initiator_run g.M.Mechanism.meaning g.met.M.Mechanism.steady

pub returns-clause-sent : goal.returns-clause-sent
returns-clause-sent g c = λ offering state came before message result h s.
    (initiator_step g.M.Mechanism.meaning g.met.M.Mechanism.steady offering state came before message result h s).1

pub returns-clause-failed : goal.returns-clause-failed
returns-clause-failed g c = λ refusal messages after run.
    initiator_failed g.M.Mechanism.meaning refusal (initiators.Failed refusal) messages after refl run
