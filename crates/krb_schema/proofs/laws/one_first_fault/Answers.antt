use Rattle.krb_schema.proofs.FirstFaults.{one_first_fault as only}
use Rattle.krb_schema.proofs.laws.one_first_fault.Goals as goal

pub returns : goal.returns
returns c schema is name octets fault other less f g = only schema is name octets fault other less f g
