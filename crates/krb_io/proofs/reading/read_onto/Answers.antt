use Rattle.std.proofs.Common.{arith}
use Rattle.std.proofs.lemmas.Result.{err_from_is_err_and}
use Rattle.krb_io.proofs.Transfers.{rejected_after}
use Rattle.krb_io.proofs.reading.read_onto.Goals as goal

pub returns-in_err-n-clause-rejected : goal.returns-in_err-n-clause-rejected
returns-in_err-n-clause-rejected g c =
    let error = err_from_is_err_and c.from_residual.result c.from_residual.ensures.1 in
    let less = c.loop-done-test.true in
    rw (error.1, error.2) (rejected_after c.loop-done.done c.args.count _ _ _ _ _ _ c.loop-done.invariant.0 less (c.in_err-n.ensures.rejected (omega arith)))
