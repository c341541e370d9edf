use Rattle.krb_files.proofs.Kept.{begins_longer, if_error_any}
use Rattle.krb_files.proofs.fields.writing.push_each_typed.Goals as goal

pub returns-in_err-push_typed-clause-kept : goal.returns-in_err-push_typed-clause-kept
returns-in_err-push_typed-clause-kept c = if_error_any c.from_residual.result (begins_longer _ _ _ _ c.typed.invariant c.in_err-push_typed.ensures.kept)
