use Rattle.std.proofs.Common.{[], rules}
use Rattle.std.proofs.lemmas.Result.{err_from_is_err_and}
use Rattle.krb_schema.proofs.Refusals.{refused_or_memory}
use Rattle.krb_schema.proofs.walk.items_of.Goals as goal

pub returns-in_err-push_whole-clause-refused : goal.returns-in_err-push_whole-clause-refused
returns-in_err-push_whole-clause-refused c =
    let p = err_from_is_err_and c.from_residual.result c.from_residual.ensures.1 in
    rw (p.1, p.2)
    (refused_or_memory 64 c.args.schema.now c.args.is c.args.name [] 0 c.args.octets.now c.in_err-push_whole.field-0.0 (search rules) c.in_err-push_whole.ensures.refused)
