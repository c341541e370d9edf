use Rattle.std.proofs.Common.{ap}
use Rattle.std.proofs.lemmas.Result.{err_from_is_err_and}
use Rattle.jolmurig_command.specs.Accepts.{Accept}
use Rattle.jolmurig.proofs.Judging.{no_service, said_so, unsaid_so}
use Rattle.jolmurig.proofs.judge.judge.Goals as goal

pub returns-in_err-service-clause-rejected : goal.returns-in_err-service-clause-rejected
returns-in_err-service-clause-rejected g c =
    let p = err_from_is_err_and c.from_residual.result c.from_residual.ensures.1 in
    rw (p.1, p.2) (no_service _ _ _ c.args.asked.now _ _ c.in_err-service.ensures.rejected)

pub returns-clause-said : goal.returns-clause-said
returns-clause-said g c =
    let service = c.in_ok-service.service in
    said_so c.judge_by-said.result (g.F.Files.gives c.args.files.now) (g.F.Clock.ticks c.args.files.now) c.args.asked.now _ (g.R.Read.remaining c.args.input.now) service.terms service.means.settings service.means.clock service.means.keytab.items
    (ap (λ (a : Accept). a.file) c.asked.view_is) c.in_ok-service.ensures.found g.C.Calls.judges (λ r. r.accepts) (λ r. r.line.items) c.judge_by-said.ensures.said

pub returns-clause-rejected : goal.returns-clause-rejected
returns-clause-rejected g c =
    let service = c.in_ok-service.service in
    unsaid_so c.judge_by-said.result (g.F.Files.gives c.args.files.now) (g.F.Clock.ticks c.args.files.now) c.args.asked.now _ (g.R.Read.remaining c.args.input.now) service.terms service.means.settings service.means.clock service.means.keytab.items
    (ap (λ (a : Accept). a.file) c.asked.view_is) c.in_ok-service.ensures.found g.C.Calls.misjudges _ c.judge_by-said.ensures.rejected
