use Rattle.krb_spnego.proofs.Encodings.{list, offer, reply}
use Rattle.krb_spnego.proofs.Hearing.{acceptor_heard, acceptor_offered, failed_acceptor}
use Rattle.krb_spnego.proofs.laws.acceptor.Goals as goal

pub returns-clause-offered : goal.returns-clause-offered
returns-clause-offered g c = acceptor_offered offer list reply g.M.Mechanism.meaning c.acceptor_is_justified.ensures.offered

pub returns-clause-heard : goal.returns-clause-heard
returns-clause-heard g c = acceptor_heard offer list reply g.M.Mechanism.meaning c.acceptor_is_justified.ensures.run

pub returns-clause-failed : goal.returns-clause-failed
returns-clause-failed g c = failed_acceptor offer list reply g.M.Mechanism.meaning
