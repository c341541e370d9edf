use Rattle.std.proofs.Common.{inl, inr, refl}
use Rattle.std.proofs.lemmas.Result.{err_from_is_err_and}
use Rattle.krb_show_tokens.proofs.tokens.page_of_frame.Goals as goal

pub returns-in_err-head : goal.returns-in_err-head
returns-in_err-head c =
    let p = err_from_is_err_and c.from_residual.result c.from_residual.ensures.1 in
    rw (p.1, p.2) (inl refl)

pub returns : goal.returns
returns c = inr (c.in_ok-head.head, c.in_ok-head.ensures, rw (c.framed_of.ensures) at c.page_of_framed.ensures)
