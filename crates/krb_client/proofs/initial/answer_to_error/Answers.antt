use Rattle.std.proofs.Common.{inl, inr, refl}
use Rattle.std.proofs.lemmas.Result.{err_from_is_err_and}
use Rattle.krb_client.proofs.initial.answer_to_error.Goals as goal

pub returns-in_err-change-clause-rejected : goal.returns-in_err-change-clause-rejected
returns-in_err-change-clause-rejected c =
    let p = err_from_is_err_and c.from_residual-in_err-change.result c.from_residual-in_err-change.ensures.1 in
    rw (p.1, p.2) (inr (c.in_ok-reported.reported, c.in_ok-reported.ensures.found, inl c.in_err-change.ensures.rejected))

pub returns-in_err-request-clause-rejected : goal.returns-in_err-request-clause-rejected
returns-in_err-request-clause-rejected c =
    let p = err_from_is_err_and c.from_residual-in_err-request.result c.from_residual-in_err-request.ensures.1 in
    rw (p.1, p.2) (inr (
      c.in_ok-reported.reported,
      c.in_ok-reported.ensures.found,
      inr (c.in_ok-change.change, c.in_ok-change.ensures.calls, c.in_err-request.field-0.0, refl, c.in_err-request.ensures.rejected),
    ))
