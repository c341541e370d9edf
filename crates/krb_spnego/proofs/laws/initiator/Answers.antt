use Rattle.krb_spnego.proofs.Encodings.{reply}
use Rattle.krb_spnego.proofs.Hearing.{failed_hears, initiator_heard}
use Rattle.krb_spnego.proofs.laws.initiator.Goals as goal

pub returns-clause-heard : goal.returns-clause-heard
returns-clause-heard g c = initiator_heard reply g.M.Mechanism.meaning c.initiator_is_justified.ensures.run

pub returns-clause-failed : goal.returns-clause-failed
returns-clause-failed g c = failed_hears reply g.M.Mechanism.meaning
