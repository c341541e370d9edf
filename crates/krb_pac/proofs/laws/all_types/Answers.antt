use Rattle.krb_pac.proofs.Numbering.{one_pac, only_numbers, pac_numbered}
use Rattle.krb_pac.proofs.laws.all_types.Goals as goal

pub returns-clause-same : goal.returns-clause-same
returns-clause-same c = pac_numbered

pub returns-clause-one : goal.returns-clause-one
returns-clause-one c = λ b pac read x y. one_pac b read pac y x

pub returns-clause-refused : goal.returns-clause-refused
returns-clause-refused c = only_numbers
