use Rattle.krb_spnego_rules.proofs.WholeRuns.{found_out}
use Rattle.krb_spnego_rules.proofs.laws.man_in_the_middle.Goals as goal

pub returns : goal.returns
returns g c = found_out g.I.Mechanism.meaning g.A.Mechanism.meaning
