use Rattle.std.proofs.Common.{refl}
use Rattle.krb_client.proofs.reported.key_for.Goals as goal

pub returns-in-Err-clause-rejected : goal.returns-in-Err-clause-rejected
returns-in-Err-clause-rejected c = (c.in-Err.error, refl, rw (c.data_of.ensures, c.as_slice-suites.ensures.value) at c.in-Err.ensures.rejected)
