use Rattle.std.proofs.Common.{length}
use Rattle.jolmurig.proofs.hints.+push_near.Given as goal

abbrev pub decreases-push_near : goal.decreases-push_near
decreases-push_near l = length l.names.now
