use Rattle.std.proofs.Common.{inl, inr, refl}
use Rattle.std.proofs.lemmas.Result.{err_from_is_err_and}
use Rattle.krb_client.proofs.hint.key_of.Goals as goal

pub returns-in_err-message-clause-rejected : goal.returns-in_err-message-clause-rejected
returns-in_err-message-clause-rejected g c =
    let p = err_from_is_err_and c.from_residual.result c.from_residual.ensures.1 in
    rw (p.1, p.2) (inl c.in_err-message.ensures.rejected)

pub returns-clause-rejected : goal.returns-clause-rejected
returns-clause-rejected g c =
    inr (
      c.in_ok-message.message,
      c.in_ok-message.ensures.found,
      (
        c.in-Err.error,
        refl,
        rw (c.as_slice-suites.ensures.value, c.padata-padata.ensures, c.etype-number.ensures) at c.in-Err.ensures.rejected,
      ),
    )
