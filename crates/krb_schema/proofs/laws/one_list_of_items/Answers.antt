use Rattle.krb_schema.proofs.OneForest.{one_items}
use Rattle.krb_schema.proofs.laws.one_list_of_items.Goals as goal

pub returns : goal.returns
returns c schema is name octets items other v w = one_items schema is name octets items other v w
