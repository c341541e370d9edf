use Rattle.std.proofs.Common.{inl, inr}
use Rattle.std.proofs.lemmas.Result.{err_from_is_err_and}
use Rattle.krb_kdc_proxy.proofs.Changes.{no_first, some_first}
use Rattle.krb_kdc_proxy.proofs.replies.change_replies.Goals as goal

pub returns-in_err-private-clause-rejected : goal.returns-in_err-private-clause-rejected
returns-in_err-private-clause-rejected c =
    let p = err_from_is_err_and c.from_residual-in_err-private.result c.from_residual-in_err-private.ensures.1 in
    rw (p.1, p.2) (elim c.in_err-private.ensures.rejected [
      | inl memory ↦ inl memory
      | inr none ↦ inr (inl (some_first c.args.first.now c.is_empty.result c.is_empty.ensures c.if-is_empty.false, inr (c.in_ok-reply.reply, c.in_ok-reply.ensures.found, none)))
    ])

pub returns-in_ok-error-clause-found : goal.returns-in_ok-error-clause-found
returns-in_ok-error-clause-found c =
    inr (no_first c.args.first.now c.is_empty.result c.is_empty.ensures c.if-is_empty.true, (c.in_ok-error.error, c.in_ok-error.ensures.found))
