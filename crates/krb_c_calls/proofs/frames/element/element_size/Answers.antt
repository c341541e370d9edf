use Rattle.std.proofs.Common.{◌<◌, ◌^◌, length, arith}
use Rattle.krb_c_calls.proofs.Elements.{none_refused, size_read}
use Rattle.krb_c_calls.proofs.frames.element.element_size.Goals as goal

pub returns-in-Ok : goal.returns-in-Ok
returns-in-Ok c = size_read c.args.octets.now c.in-Ok.field-0-0.now _ c.in-Ok.taken c.in-Ok.ensures.found

pub returns-in-Err : goal.returns-in-Err
returns-in-Err c = λ tag content rest e.
    let lt : length c.args.octets.now < 2 ^ 64 = omega arith in
    absurd (none_refused c.args.octets.now c.in-Err.field-0 lt c.in-Err.ensures.heapless c.in-Err.ensures.rejected tag content rest e)
