use Rattle.std.proofs.Common.{inl, inr}
use Rattle.std.proofs.lemmas.Result.{err_from_is_err_and}
use Rattle.krb_kdc_proxy.proofs.reply.stream_reply.Goals as goal

pub returns-in_err-reply-clause-rejected : goal.returns-in_err-reply-clause-rejected
returns-in_err-reply-clause-rejected c =
    let p = err_from_is_err_and c.from_residual-in_err-reply.result c.from_residual-in_err-reply.ensures.1 in
    rw (p.1, p.2) (elim c.in_err-reply.ensures.rejected [
      | inl memory ↦ inl memory
      | inr none ↦ inr (inr (c.in_ok-datagram.datagram.now, c.in_ok-datagram.ensures.found, none))
    ])
