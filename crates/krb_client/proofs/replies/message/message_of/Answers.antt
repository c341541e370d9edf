use Rattle.std.proofs.lemmas.Result.{err_from_is_err_and}
use Rattle.krb_client.proofs.Checks.{numbers_refused}
use Rattle.krb_client.proofs.replies.message.message_of.Goals as goal

pub returns-in_err-has_numbers-clause-rejected : goal.returns-in_err-has_numbers-clause-rejected
returns-in_err-has_numbers-clause-rejected g c =
    let p = err_from_is_err_and c.from_residual-in_err-has_numbers.result c.from_residual-in_err-has_numbers.ensures.1 in
    rw (p.1, p.2) (numbers_refused g.T.DerEncode g.T.Numbered.numbers c.args.number c.args.octets.now c.in_ok-message.message c.in_ok-message.ensures.found c.in_err-has_numbers.field-0.0 c.pvno.result.now c.msg_type.result.now c.pvno.ensures c.msg_type.ensures c.in_err-has_numbers.ensures.rejected)
