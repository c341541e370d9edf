use Rattle.krb_accept_rules.proofs.Among.{recorded, stays}
use Rattle.krb_accept_rules.proofs.laws.remembering.Goals as goal

pub returns-clause-stays : goal.returns-clause-stays
returns-clause-stays c = stays

pub returns-clause-recorded : goal.returns-clause-recorded
returns-clause-recorded c = recorded
