use Rattle.krb_c_client.specs.Renamed.{not_renamed}
use Rattle.krb_c_client.proofs.rename.taken.Goals as goal

pub returns-in-Err-clause-refused : goal.returns-in-Err-clause-refused
returns-in-Err-clause-refused c = not_renamed c.in-Err.error c.in-Err.ensures.rejected c.rename_refusal.ensures
