use Rattle.std.proofs.Common.{sym}
use Rattle.jolmurig.proofs.judge.time_in.Goals as goal

pub returns-clause-found : goal.returns-clause-found
returns-clause-found c = rw (sym c.as_bytes.ensures.value) c.in_ok-found.ensures
