use Rattle.krb_messages.proofs.Frames.{frame_read}
use Rattle.krb_messages.proofs.kpasswd.reading.take_messages.Goals as goal

pub returns-clause-reads : goal.returns-clause-reads
returns-clause-reads g c = frame_read g.A.DerEncode g.B.DerEncode _ _ c.read_messages.result c.read_messages.ensures.valid c.read_messages.ensures.found c.read_messages.ensures.rejected
