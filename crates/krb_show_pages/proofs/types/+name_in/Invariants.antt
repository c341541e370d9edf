use Rattle.std.proofs.Common.{length}
use Rattle.krb_show_pages.proofs.types.+name_in.Given as goal

abbrev pub decreases-name_in : goal.decreases-name_in
decreases-name_in l = length l.rows.now
