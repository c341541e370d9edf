use Rattle.std.proofs.Common.{◌<◌, ◌^◌, length, drop, inr, arith}
use Rattle.std.proofs.lemmas.Result.{err_from_is_err_and}
use Rattle.krb_c_calls.proofs.FramedTokens.{frame_error, mechanism_error, more_error, token_read}
use Rattle.krb_c_calls.proofs.frames.token.token_parts.Goals as goal

pub returns-in_err-content-clause-rejected : goal.returns-in_err-content-clause-rejected
returns-in_err-content-clause-rejected c =
    let p = err_from_is_err_and c.from_residual.result c.from_residual.ensures.1 in
    let lt : length c.args.octets.now < 2 ^ 64 = omega arith in
    let r = c.in_err-content.ensures in
    rw (p.1, p.2) (inr (frame_error c.args.octets.now c.in_err-content.field-0.0 lt r.heapless r.rejected r.first_error))

pub returns-in_err-_mechanism-clause-rejected : goal.returns-in_err-_mechanism-clause-rejected
returns-in_err-_mechanism-clause-rejected c =
    let p = err_from_is_err_and c.from_residual-in_err-_mechanism.result c.from_residual-in_err-_mechanism.ensures.1 in
    let lt : length c.args.octets.now < 2 ^ 64 = omega arith in
    let r = c.in_err-_mechanism.ensures in
    rw (p.1, p.2) (mechanism_error c.args.octets.now c.in_ok-content.content.now (drop c.in_ok-content.taken c.args.octets.now) c.in_err-_mechanism.field-0.0 lt c.in_ok-content.ensures.found.prefix r.rejected r.first_error)

pub returns-then-taken-octets-clause-rejected : goal.returns-then-taken-octets-clause-rejected
returns-then-taken-octets-clause-rejected c =
    inr (more_error c.args.octets.now c.in_ok-content.content.now c.in_ok-content.taken c.in_ok-_mechanism._mechanism c.in_ok-_mechanism.field-0-1 c.in_ok-content.ensures.found
    c.in_ok-_mechanism.ensures.valid c.in_ok-_mechanism.ensures.found c.if-taken-octets.true)

pub returns-clause-found : goal.returns-clause-found
returns-clause-found c =
    token_read c.args.octets.now c.in_ok-content.content.now c.in_ok-mechanism.mechanism.now c.in_ok-content.taken c.in_ok-mechanism.before c.in_ok-_mechanism.field-0-1 c.in_ok-_mechanism._mechanism
    c.in_ok-content.ensures.found c.if-taken-octets.false c.in_ok-_mechanism.ensures.valid c.in_ok-_mechanism.ensures.found c.in_ok-mechanism.ensures.found
