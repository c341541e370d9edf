use Rattle.std.proofs.Common.{refl}
use Rattle.krb_client.proofs.initial_request.padata_of.Goals as goal

pub returns-in_ok-stamp-in-Some-clause-made : goal.returns-in_ok-stamp-in-Some-clause-made
returns-in_ok-stamp-in-Some-clause-made c = rw c.in-Some.is (c.in_ok-stamp-in-Some.field-0, refl, c.in_ok-stamp-in-Some.ensures.made)
