use Rattle.std.proofs.Common.{inl, inr, refl}
use Rattle.std.proofs.lemmas.Result.{err_from_is_err_and}
use Rattle.krb_client.proofs.service.answer_to_error.Goals as goal

pub returns-then-not-needs_time-clause-rejected : goal.returns-then-not-needs_time-clause-rejected
returns-then-not-needs_time-clause-rejected c =
    inr (c.in_ok-reported.reported, c.in_ok-reported.ensures.found, inl (c.if-not-needs_time.ensures, refl))

pub returns-in_err-request-clause-rejected : goal.returns-in_err-request-clause-rejected
returns-in_err-request-clause-rejected c =
    let p = err_from_is_err_and c.from_residual-in_err-request.result c.from_residual-in_err-request.ensures.1 in
    rw (p.1, p.2) (inr (
      c.in_ok-reported.reported,
      c.in_ok-reported.ensures.found,
      inr (c.if-not-needs_time.ensures, c.in_err-request.field-0.0, refl, rw c.offset_of-offset.ensures at c.in_err-request.ensures.rejected),
    ))
