use Rattle.std.proofs.Common.{min}
use Rattle.std.proofs.Math.Nat.{min-eq_left}
use Rattle.krb_der.proofs.FieldNumbers.{same_number}
use Rattle.krb_der.proofs.laws.field_errors.Goals as goal

pub returns-clause-mandatory : goal.returns-clause-mandatory
returns-clause-mandatory g c = λ small octets e. same_number (min g.row.N 30) g.row.N (min-eq_left small) _ octets e
