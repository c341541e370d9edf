use Rattle.krb_pac.specs.OnePac.{one_pac}
use Rattle.krb_pac.proofs.laws.readings.Goals as goal

pub returns-clause-one : goal.returns-clause-one
returns-clause-one c = λ b pac read x y. one_pac b read pac y x

pub returns-clause-read_back : goal.returns-clause-read_back
returns-clause-read_back c = λ b pac read x y. one_pac b read pac y x.is
