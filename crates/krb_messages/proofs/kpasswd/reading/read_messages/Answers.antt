use Rattle.std.proofs.Common.{sym, subst}
use Rattle.krb_messages.proofs.Frames.{first_untaken, frame_taken, second_untaken}
use Rattle.krb_messages.specs.Rejected.{ReaderRejected}
use Rattle.krb_messages.proofs.kpasswd.reading.read_messages.Goals as goal

pub returns-in-Err-clause-rejected : goal.returns-in-Err-clause-rejected
returns-in-Err-clause-rejected g c =
    subst (ReaderRejected g.A.DerEncode g.B.DerEncode _ _) (sym c.ap_message_rejection.ensures)
    (first_untaken g.A.DerEncode g.B.DerEncode _ _ _ c.in-Err.error c.in_ok-read_header.ensures.ok c.in-Err.ensures.rejected c.in-Err.ensures.first_error)

pub returns-in-Err-from_reader-clause-rejected : goal.returns-in-Err-from_reader-clause-rejected
returns-in-Err-from_reader-clause-rejected g c =
    subst (ReaderRejected g.A.DerEncode g.B.DerEncode _ _) (sym c.krb_priv_rejection.ensures)
    (second_untaken g.A.DerEncode g.B.DerEncode _ _ _ _ c.in-Ok.message c.in-Err-from_reader.error c.in_ok-read_header.ensures.ok c.in-Ok.ensures.valid c.in-Ok.ensures.found c.in-Err-from_reader.ensures.rejected
    c.in-Err-from_reader.ensures.first_error)

pub returns-clause-found : goal.returns-clause-found
returns-clause-found g c = frame_taken _ _ _ _ _ _ c.in_ok-read_header.ensures.ok c.in-Ok.ensures.found c.in-Ok-from_reader.ensures.found
