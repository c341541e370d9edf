use Rattle.krb_accept_rules.proofs.Once.{once, repeated}
use Rattle.krb_accept_rules.proofs.laws.once.Goals as goal

pub returns-clause-never : goal.returns-clause-never
returns-clause-never g c = once _

pub returns-clause-repeat : goal.returns-clause-repeat
returns-clause-repeat g c = repeated _
