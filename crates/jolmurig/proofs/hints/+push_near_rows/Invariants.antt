use Rattle.std.proofs.Common.{length}
use Rattle.jolmurig.proofs.hints.+push_near_rows.Given as goal

abbrev pub decreases-push_near_rows : goal.decreases-push_near_rows
decreases-push_near_rows l = length l.rows.now
