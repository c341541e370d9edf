use Rattle.std.proofs.Common.{length}
use Rattle.krb_der.proofs.Rows.{ReadSoFar}
use Rattle.krb_der.proofs.sequence_of.read_items.Given as goal

abbrev pub invariant-loop-rest : goal.invariant-loop-rest
invariant-loop-rest g l = ReadSoFar g.T.DerEncode.enc g.T.DerEncode.is_value l.items.items l.rest l.fn.octets

abbrev pub decreases-loop-rest : goal.decreases-loop-rest
decreases-loop-rest g l = length l.rest
