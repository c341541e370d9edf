use Rattle.std.proofs.Common.{length, ◌-◌}
use Rattle.krb_message_fields.proofs.Walks.{ItemSoFar}
use Rattle.krb_message_fields.proofs.places.rows.item.Given as goal

abbrev pub invariant-loop-passed : goal.invariant-loop-passed
invariant-loop-passed l = ItemSoFar l.index l.left l.octets l.passed

abbrev pub decreases-loop-passed : goal.decreases-loop-passed
decreases-loop-passed l = length l.octets - l.passed
