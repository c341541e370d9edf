use Rattle.std.proofs.Common.{refl}
use Rattle.krb_der_core.specs.Errors.{in_content}
use Rattle.krb_encoding_check.proofs.leaf.check_leaf.Goals as goal

pub returns-in-Err-clause-refused : goal.returns-in-Err-clause-refused
returns-in-Err-clause-refused c = rw c.in-Identifier.is (c.in-Err.why, in_content c.in-Err.why refl c.in-Err.ensures.refused, refl)
