use Rattle.std.proofs.lemmas.Result.{err_from_is_err_and}
use Rattle.krbtool_engine.proofs.Runs.{arguments_run, unread_run, unanswered_run, unwritten_run, answered_run}
use Rattle.krbtool_engine.proofs.engine.perform.Goals as goal

pub returns-in_err-command : goal.returns-in_err-command
returns-in_err-command g c =
    let p = err_from_is_err_and c.from_residual.result c.from_residual.ensures.1 in
    rw (p.1, p.2) (arguments_run _ _ _ _ _ _ _ _ c.in_err-command.ensures.rejected)

pub returns-in_err-octets : goal.returns-in_err-octets
returns-in_err-octets g c =
    let p = err_from_is_err_and c.from_residual-in_err-octets.result c.from_residual-in_err-octets.ensures.1 in
    rw (p.1, p.2) (unread_run _ _ _ _ _ c.in_ok-command.command _ _ _ _ c.in_ok-command.ensures.found c.in_err-octets.ensures.rejected)

pub returns-in_err-made : goal.returns-in_err-made
returns-in_err-made g c =
    let p = err_from_is_err_and c.from_residual-in_err-made.result c.from_residual-in_err-made.ensures.1 in
    rw (p.1, p.2)
    (unanswered_run _ _ _ _ _ c.in_ok-command.command _ c.in_ok-octets.octets.items _ _ _ c.in_ok-command.ensures.found c.in_ok-octets.ensures.read
    (rw c.deref.ensures.value at c.in_err-made.ensures.only) (rw c.deref.ensures.value at c.in_err-made.ensures.rejected))

pub returns-in_err-write_out : goal.returns-in_err-write_out
returns-in_err-write_out g c =
    let p = err_from_is_err_and c.from_residual-in_err-write_out.result c.from_residual-in_err-write_out.ensures.1 in
    rw (p.1, p.2, c.in_err-write_out.ensures.rejected)
    (unwritten_run _ _ _ _ _ c.in_ok-command.command c.in_ok-octets.octets.items c.in_ok-made.made.items _ _ _ _ c.in_ok-command.ensures.found
    (rw c.deref.ensures.value at c.in_ok-made.ensures.found) c.in_ok-octets.ensures.read c.in_ok-octets.ensures.end)

pub returns : goal.returns
returns g c =
    answered_run _ _ _ _ _ c.in_ok-command.command c.in_ok-octets.octets.items c.in_ok-made.made.items _ _ _ _ c.in_ok-command.ensures.found
    (rw c.deref.ensures.value at c.in_ok-made.ensures.found) (rw c.deref.ensures.value at c.in_ok-made.ensures.only) c.in_ok-octets.ensures.read
    c.in_ok-octets.ensures.end (rw c.deref-2.ensures.value at c.in_ok-write_out.ensures.written)
