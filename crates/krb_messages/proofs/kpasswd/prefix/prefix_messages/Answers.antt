use Rattle.std.proofs.Common.{rules}
use Rattle.krb_messages.proofs.Frames.{frame_at_start}
use Rattle.krb_messages.proofs.kpasswd.prefix.prefix_messages.Goals as goal

pub returns-clause-reads : goal.returns-clause-reads
returns-clause-reads g c = frame_at_start g.A.DerEncode g.B.DerEncode c.args.octets.now c.messages.result c.messages.ensures.valid c.messages.ensures.found c.messages.ensures.first_error (search rules)
