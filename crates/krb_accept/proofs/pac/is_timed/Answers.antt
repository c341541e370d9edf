use Rattle.std.proofs.Common.{SFits, to_z-of_z, w64}
use Rattle.krb_accept.proofs.FileTimes.{match_so, of_timed, timed_of}
use Rattle.krb_accept.proofs.pac.is_timed.Goals as goal

pub returns : goal.returns
returns c =
    let fits = c.ranges.seconds in
    let fits_too : SFits w64 c.seconds_of.result = record { sfits = c.seconds_of.type_inv } in
    let same = simp to_z-of_z at c.is_same_second.ensures in
    match_so c.is_same_second.result (timed_of c.args.file_time c.args.seconds c.seconds_of.result c.seconds_of.ensures c.if-file_time-ne0.false)
    (of_timed c.args.file_time c.args.seconds c.seconds_of.result c.seconds_of.ensures) same
