use Rattle.krb_der.specs.EqualityLaws.{times_decide}
use Rattle.krb_accept.proofs.Comparing.{matches}
use Rattle.krb_accept.proofs.third_leg.is_same_time.Goals as goal

pub returns : goal.returns
returns c = matches _ times_decide c.args.first.now c.args.second.now c.eq.result c.eq.ensures
