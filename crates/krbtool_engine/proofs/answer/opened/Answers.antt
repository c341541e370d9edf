use Rattle.std.proofs.Common.{rules, w32, FitsSigned}
use Rattle.std.proofs.lemmas.Int.{to_z-of_z}
use Rattle.std.proofs.lemmas.Result.{err_from_is_err_and}
use Rattle.krbtool_engine.proofs.Rejections.{open_error_of_part}
use Rattle.krbtool_engine.proofs.answer.opened.Goals as goal

pub returns-in_err-value-clause-rejected : goal.returns-in_err-value-clause-rejected
returns-in_err-value-clause-rejected g c =
    let p = err_from_is_err_and c.from_residual.result c.from_residual.ensures.1 in
    let fits : FitsSigned w32 c.args.key.now.usage = search rules in
    let usage = to_z-of_z w32 c.args.key.now.usage fits in
    rw (p.1, p.2)
    (open_error_of_part _ _ _ _ _ _ _ _ c.in_err-value.field-0.0 (rw (c.deref.ensures.value, usage) at c.in_err-value.ensures.crypto)
    (rw (c.deref.ensures.value, usage) at c.in_err-value.ensures.exact) (rw (c.deref.ensures.value, usage) at c.in_err-value.ensures.first_error))
