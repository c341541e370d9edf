use Rattle.std.proofs.Common.{◌<◌, ◌^◌, length, arith}
use Rattle.std.proofs.lemmas.Result.{err_from_is_err_and}
use Rattle.krb_c_calls.proofs.FrameLengths.{refused}
use Rattle.krb_c_calls.proofs.frames.password.message_sizes.Goals as goal

pub returns-in_err-message-clause-rejected : goal.returns-in_err-message-clause-rejected
returns-in_err-message-clause-rejected c =
    let p = err_from_is_err_and c.from_residual.result c.from_residual.ensures.1 in
    let lt : length c.args.frame.now < 2 ^ 64 = omega arith in
    rw (p.1, p.2) (refused _ _ c.args.frame.now c.in_err-message.field-0.0 lt c.in_err-message.ensures.first_error)
