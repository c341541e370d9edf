use Rattle.krb_pac.proofs.Viewed.{alike}
use Rattle.krb_pac.proofs.laws.views.Goals as goal

pub returns : goal.returns
returns c = alike
