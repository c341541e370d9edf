use Rattle.krb_der.specs.EqualityLaws.{integers_decide}
use Rattle.krb_accept.proofs.Comparing.{matches}
use Rattle.krb_accept.proofs.with_key.is_same_integer.Goals as goal

pub returns : goal.returns
returns c = matches _ integers_decide c.args.first.now c.args.second.now c.eq.result c.eq.ensures
