use Rattle.krb_der.specs.EqualityLaws.{integers_decide}
use Rattle.krb_der.proofs.laws.primitive_equality.Goals as goal

pub returns-clause-integer : goal.returns-clause-integer
returns-clause-integer c = integers_decide
