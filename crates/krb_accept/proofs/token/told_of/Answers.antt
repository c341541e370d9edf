use Rattle.std.proofs.Common.{inl, inr}
use Rattle.std.proofs.lemmas.Result.{err_from_is_err_and}
use Rattle.krb_accept.proofs.token.told_of.Goals as goal

pub returns-in_err-pac-clause-refused : goal.returns-in_err-pac-clause-refused
returns-in_err-pac-clause-refused c =
    let p = err_from_is_err_and c.from_residual.result c.from_residual.ensures.1 in
    rw (p.1, p.2) (inl c.in_err-pac.ensures.refused)

pub returns-in_err-said-clause-refused : goal.returns-in_err-said-clause-refused
returns-in_err-said-clause-refused c =
    let p = err_from_is_err_and c.from_residual-in_err-said.result c.from_residual-in_err-said.ensures.1 in
    rw (p.1, p.2) (inr (_, c.in_ok-pac.ensures.kept, inl c.in_err-said.ensures.refused))

pub returns-in_err-delegated-clause-refused : goal.returns-in_err-delegated-clause-refused
returns-in_err-delegated-clause-refused c =
    let p = err_from_is_err_and c.from_residual-in_err-delegated.result c.from_residual-in_err-delegated.ensures.1 in
    rw (p.1, p.2) (inr (
      _,
      c.in_ok-pac.ensures.kept,
      inr (
        c.in_ok-said.said.flags,
        c.in_ok-said.said.delegated.now,
        c.in_ok-said.ensures.said,
        c.in_err-delegated.ensures.refused,
      ),
    ))
