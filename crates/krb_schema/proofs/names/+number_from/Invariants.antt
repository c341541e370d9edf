use Rattle.std.proofs.Common.{length}
use Rattle.krb_schema.proofs.names.+number_from.Given as goal

abbrev pub decreases-number_from : goal.decreases-number_from
decreases-number_from l = length l.names.now
