use Rattle.krb_accept_rules.proofs.Forms.{once_in_any_form}
use Rattle.krb_accept_rules.proofs.laws.once_in_any_form.Goals as goal

pub returns : goal.returns
returns g c = once_in_any_form _
