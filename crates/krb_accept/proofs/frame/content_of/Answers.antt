use Rattle.std.proofs.Common.{◌<◌, ◌^◌, length, arith}
use Rattle.krb_accept.proofs.Frames.{all_taken, not_rejected}
use Rattle.krb_accept.proofs.frame.content_of.Goals as goal

pub returns-then-taken-token : goal.returns-then-taken-token
returns-then-taken-token c = λ content q.
    c.if-taken-token.true (all_taken 96 content c.in-Ok.content.now c.args.token.now c.in-Ok.taken c.in-Ok.ensures.found q)

pub returns-in-Err : goal.returns-in-Err
returns-in-Err c = λ content q.
    let lt : length c.args.token.now < 2 ^ 64 = omega arith in
    not_rejected 96 content c.args.token.now c.in-Err._error lt c.in-Err.ensures.rejected c.in-Err.ensures.heapless q
