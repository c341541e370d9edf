use Rattle.std.proofs.Common.{inl, inr}
use Rattle.std.proofs.lemmas.Result.{err_from_is_err_and}
use Rattle.krb_accept.proofs.token.accept_token.Goals as goal

pub returns-in_err-presented-clause-refused : goal.returns-in_err-presented-clause-refused
returns-in_err-presented-clause-refused c =
    let p = err_from_is_err_and c.from_residual.result c.from_residual.ensures.1 in
    rw (p.1, p.2) (inl c.in_err-presented.ensures.refused)

pub returns-in_err-context-clause-refused : goal.returns-in_err-context-clause-refused
returns-in_err-context-clause-refused c =
    let p = err_from_is_err_and c.from_residual-in_err-context.result c.from_residual-in_err-context.ensures.1 in
    rw (p.1, p.2) (inr (c.in_ok-presented.presented, c.in_ok-presented.ensures.found, c.in_err-context.ensures.refused))

pub returns-clause-accepted : goal.returns-clause-accepted
returns-clause-accepted c = record {
  presented = c.in_ok-presented.presented;
  is_presented = c.in_ok-presented.ensures.found;
  admitted = c.in_ok-context.ensures.admitted;
  told = c.in_ok-context.ensures.told;
}
