use Rattle.std.proofs.lemmas.Result.{err_from_is_err_and}
use Rattle.krb_negoex.proofs.message.decode_whole.Goals as goal

pub returns-in_err-value-clause-only : goal.returns-in_err-value-clause-only
returns-in_err-value-clause-only g c = λ v x.
    let p = err_from_is_err_and c.from_residual.result c.from_residual.ensures.1 in
    rw (p.1, p.2) (g.M.Lay.layout.no_part c.args.message.now c.args.message.now c.in_err-value.field-0.0 v c.in_err-value.ensures.rejected x)
