use Rattle.std.proofs.Common.{length}
use Rattle.krb_show_pages.proofs.types.+type_in.Given as goal

abbrev pub decreases-type_in : goal.decreases-type_in
decreases-type_in l = length l.names.now
