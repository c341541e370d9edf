use Rattle.std.proofs.Common.{[], refl}
use Rattle.krb_negoex.specs.Whole.{four_zeros, one_reading}
use Rattle.krb_negoex.specs.Wire.{nego_layout, exchange_layout, verify_layout}
use Rattle.krb_negoex.proofs.laws.messages_read_back.Goals as goal

pub returns-clause-nego : goal.returns-clause-nego
returns-clause-nego c = λ n r l. one_reading nego_layout 96 [] n r l refl

pub returns-clause-exchange : goal.returns-clause-exchange
returns-clause-exchange c = λ n r l. one_reading exchange_layout 64 [] n r l refl

pub returns-clause-verify : goal.returns-clause-verify
returns-clause-verify c = λ n r l. one_reading verify_layout 80 four_zeros n r l refl
