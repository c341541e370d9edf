use Rattle.std.proofs.Common.{length}
use Rattle.krb_show_pages.proofs.types.+tag_in.Given as goal

abbrev pub decreases-tag_in : goal.decreases-tag_in
decreases-tag_in l = length l.rows.now
