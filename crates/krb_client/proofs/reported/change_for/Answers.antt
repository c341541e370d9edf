use Rattle.std.proofs.Common.{inl}
use Rattle.std.proofs.lemmas.Result.{err_from_is_err_and}
use Rattle.krb_client.proofs.reported.change_for.Goals as goal

pub returns-in_err-key_for-clause-rejected : goal.returns-in_err-key_for-clause-rejected
returns-in_err-key_for-clause-rejected c =
    let p = err_from_is_err_and c.from_residual.result c.from_residual.ensures.1 in
    rw (p.1, p.2) (inl (c.if-needs_key.ensures, c.in_err-key_for.ensures.rejected))
