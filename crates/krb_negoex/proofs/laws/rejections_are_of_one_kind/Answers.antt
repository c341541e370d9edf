use Rattle.krb_negoex.specs.Wire.{nego_layout, exchange_layout, verify_layout}
use Rattle.krb_negoex.proofs.laws.rejections_are_of_one_kind.Goals as goal

pub returns-clause-nego : goal.returns-clause-nego
returns-clause-nego c = λ m e g. nego_layout.one_error m m e g

pub returns-clause-exchange : goal.returns-clause-exchange
returns-clause-exchange c = λ m e g. exchange_layout.one_error m m e g

pub returns-clause-verify : goal.returns-clause-verify
returns-clause-verify c = λ m e g. verify_layout.one_error m m e g
