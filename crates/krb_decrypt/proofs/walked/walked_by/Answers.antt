use Rattle.std.proofs.Common.{refl}
use Rattle.krb_decrypt.proofs.walked.walked_by.Goals as goal

pub returns-else-is_out_of_memory : goal.returns-else-is_out_of_memory
returns-else-is_out_of_memory c = record {
  schema = c.kerberos.result;
  name = _;
  of_row = record { known = c.requires; rows = c.kerberos.ensures; named = refl };
  none = c.in-Err.ensures.refused c.if-is_out_of_memory.ensures;
}
