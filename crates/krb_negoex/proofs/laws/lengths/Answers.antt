use Rattle.std.proofs.Common.{[], refl, arith}
use Rattle.krb_negoex.specs.Whole.{four_zeros, written_length}
use Rattle.krb_negoex.specs.Wire.{nego_layout, exchange_layout, verify_layout}
use Rattle.krb_negoex.proofs.Steps.{octets_size}
use Rattle.krb_negoex.proofs.laws.lengths.Goals as goal

pub returns-clause-nego : goal.returns-clause-nego
returns-clause-nego c = λ n. let a = written_length nego_layout 96 [] n refl in omega arith

pub returns-clause-exchange : goal.returns-clause-exchange
returns-clause-exchange c = λ n. let a = written_length exchange_layout 64 [] n refl in let b = octets_size n.exchange.items in omega arith

pub returns-clause-verify : goal.returns-clause-verify
returns-clause-verify c = λ n. let a = written_length verify_layout 80 four_zeros n refl in let b = octets_size n.checksum.checksum_value.items in omega arith
