use Rattle.krb_der.specs.EqualityLaws.{list_decides, octets_decide}
use Rattle.krb_client_rules.proofs.Comparing.{matches}
use Rattle.krb_client_rules.proofs.names.are_same.Goals as goal

pub returns : goal.returns
returns c = matches _ (list_decides octets_decide) c.args.first.now c.args.second.now c.eq.result c.eq.ensures
