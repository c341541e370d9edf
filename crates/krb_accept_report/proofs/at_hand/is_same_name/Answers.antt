use Rattle.krb_der.specs.EqualityLaws.{list_decides, octets_decide}
use Rattle.krb_accept_rules.proofs.Comparing.{matches}
use Rattle.krb_accept_report.proofs.at_hand.is_same_name.Goals as goal

pub returns : goal.returns
returns c = matches _ (list_decides octets_decide) c.args.first.now c.args.second.now c.eq.result c.eq.ensures
