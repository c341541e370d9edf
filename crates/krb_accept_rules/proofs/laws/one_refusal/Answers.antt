use Rattle.krb_accept_rules.proofs.Refused.{one_refusal}
use Rattle.krb_accept_rules.proofs.laws.one_refusal.Goals as goal

pub returns : goal.returns
returns g c = one_refusal _
