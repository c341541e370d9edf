use Rattle.krb_negoex.proofs.Alike.{nego_alike, exchange_alike, verify_alike}
use Rattle.krb_negoex.proofs.laws.views.Goals as goal

pub returns-clause-nego : goal.returns-clause-nego
returns-clause-nego c = nego_alike

pub returns-clause-exchange : goal.returns-clause-exchange
returns-clause-exchange c = exchange_alike

pub returns-clause-verify : goal.returns-clause-verify
returns-clause-verify c = verify_alike
