use Rattle.krb_der.specs.EqualityLaws.{list_decides}
use Rattle.krb_der.proofs.laws.wrapper_equality.Goals as goal

pub returns-clause-sequence_of : goal.returns-clause-sequence_of
returns-clause-sequence_of g c = λ is_apart. list_decides is_apart
