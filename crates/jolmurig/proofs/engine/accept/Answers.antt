use Rattle.std.proofs.Common.{inl, inr}
use Rattle.jolmurig.proofs.Judging.{untouched}
use Rattle.jolmurig.proofs.engine.accept.Goals as goal

pub returns-in-Err : goal.returns-in-Err
returns-in-Err g c =
    (c.judge.ensures.left, inr (c.in-Err.failure, c.undecided_of-in-Err.ensures, inl (untouched _, c.in-Err.ensures.rejected)))
