use Rattle.krb_negoex.specs.SameLayout.{same_layout}
use Rattle.krb_negoex.specs.Wire.{nego_layout, exchange_layout, verify_layout}
use Rattle.krb_negoex.proofs.laws.messages.Goals as goal

pub returns-clause-nego : goal.returns-clause-nego
returns-clause-nego c = same_layout nego_layout

pub returns-clause-exchange : goal.returns-clause-exchange
returns-clause-exchange c = same_layout exchange_layout

pub returns-clause-verify : goal.returns-clause-verify
returns-clause-verify c = same_layout verify_layout
