use Rattle.std.proofs.Common.{sym, subst}
use Rattle.std.proofs.lemmas.List.{take_rest}
use Rattle.krb_messages.proofs.Frames.{prefix_taken, second_unread}
use Rattle.krb_messages.specs.Rejected.{TrailingHeader, FrameRejected}
use Rattle.krb_messages.proofs.kpasswd.prefix.messages.Goals as goal

pub returns-in-Err-read-clause-first_error : goal.returns-in-Err-read-clause-first_error
returns-in-Err-read-clause-first_error g c =
    let seam = take_rest c.in_ok-trailing.trailing.now c.in-Ok.read.1 in
    let stands = subst (TrailingHeader c.args.octets.now) c.in-Ok.ensures.found.prefix c.in_ok-trailing.ensures.ok in
    subst (FrameRejected g.A.DerEncode g.B.DerEncode c.args.octets.now) (sym c.krb_priv_error.ensures)
    (second_unread g.A.DerEncode g.B.DerEncode c.args.octets.now _ c.in-Ok.read.0 c.in-Err-read.error c.in-Ok.ensures.valid stands (rw seam at c.in-Err-read.ensures.rejected) (rw seam at c.in-Err-read.ensures.first_error))

pub returns-clause-found : goal.returns-clause-found
returns-clause-found g c =
    let seam = take_rest c.in_ok-trailing.trailing.now c.in-Ok.read.1 in
    prefix_taken c.args.octets.now c.in_ok-trailing.trailing.now _ _ c.in-Ok.read.1 c.in-Ok-read.read.1 c.in_ok-trailing.ensures.ok c.in-Ok.ensures.found (rw seam at c.in-Ok-read.ensures.found)
