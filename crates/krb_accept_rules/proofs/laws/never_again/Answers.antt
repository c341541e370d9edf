use Rattle.krb_accept_rules.proofs.Runs.{never_again}
use Rattle.krb_accept_rules.proofs.laws.never_again.Goals as goal

pub returns : goal.returns
returns g c = never_again _
