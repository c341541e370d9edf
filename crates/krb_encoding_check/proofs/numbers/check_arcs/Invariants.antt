use Rattle.std.proofs.Common.{length}
use Rattle.krb_encoding_check.proofs.Contents.{ArcsSoFar}
use Rattle.krb_encoding_check.proofs.numbers.check_arcs.Given as goal

abbrev pub invariant-loop-rest : goal.invariant-loop-rest
invariant-loop-rest l = ArcsSoFar l.content l.rest

abbrev pub decreases-loop-rest : goal.decreases-loop-rest
decreases-loop-rest l = length l.rest
