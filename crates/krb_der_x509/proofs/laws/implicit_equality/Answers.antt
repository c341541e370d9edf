use Rattle.krb_der.specs.EqualityLaws.{tag_decides}
use Rattle.krb_der_x509.proofs.laws.implicit_equality.Goals as goal

pub returns : goal.returns
returns g c = λ h. tag_decides h
