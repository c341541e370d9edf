use Rattle.krb_types.proofs.OneReading.{one_record}
use Rattle.krb_types.proofs.lsap.laws.one_reading.Goals as goal

pub returns : goal.returns
returns c = one_record
