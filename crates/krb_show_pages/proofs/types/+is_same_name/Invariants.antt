use Rattle.std.proofs.Common.{length}
use Rattle.krb_show_pages.proofs.types.+is_same_name.Given as goal

abbrev pub decreases-is_same_name : goal.decreases-is_same_name
decreases-is_same_name l = length l.first.now
