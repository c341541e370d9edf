use Rattle.jolmurig.proofs.Judging.{wanting}
use Rattle.jolmurig.proofs.judge.service_of.Goals as goal

pub returns-in-Err-clause-rejected : goal.returns-in-Err-clause-rejected
returns-in-Err-clause-rejected g c =
    wanting (g.F.Files.gives c.args.files.now) (g.F.Clock.ticks c.args.files.now) c.args.asked.now c.in_ok-terms.terms c.in-Err.error c.in_ok-terms.ensures.found c.in-Err.ensures.rejected
