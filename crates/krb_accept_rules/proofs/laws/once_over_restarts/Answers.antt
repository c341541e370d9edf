use Rattle.krb_accept_rules.proofs.Once.{over_restarts}
use Rattle.krb_accept_rules.proofs.laws.once_over_restarts.Goals as goal

pub returns : goal.returns
returns g c = over_restarts _
