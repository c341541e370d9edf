use Rattle.std.proofs.Common.{inl, inr}
use Rattle.std.proofs.lemmas.Result.{err_from_is_err_and}
use Rattle.krb_client.proofs.service.answer_of.Goals as goal

pub returns-in_err-granted-in-Reply-clause-rejected : goal.returns-in_err-granted-in-Reply-clause-rejected
returns-in_err-granted-in-Reply-clause-rejected c =
    let p = err_from_is_err_and c.from_residual.result c.from_residual.ensures.1 in
    rw (p.1, p.2) (inr (inl (c.in-Reply.ensures, c.in_err-granted-in-Reply.ensures.rejected)))

pub returns-in_err-offset-in-Error-clause-rejected : goal.returns-in_err-offset-in-Error-clause-rejected
returns-in_err-offset-in-Error-clause-rejected c =
    let p = err_from_is_err_and c.from_residual-in_err-offset-in-Error.result c.from_residual-in_err-offset-in-Error.ensures.1 in
    rw (p.1, p.2) (inr (inr (c.in-Error.ensures.1, c.in_err-offset-in-Error.ensures.rejected)))

pub returns-in-Some-clause-answer : goal.returns-in-Some-clause-answer
returns-in-Some-clause-answer c = (c.in-Reply.ensures, rw c.in-Some.is at c.in_ok-granted-in-Reply.ensures.checked)
