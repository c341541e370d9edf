use Rattle.std.proofs.Common.{length, ◌-◌}
use Rattle.krb_message_fields.proofs.Walks.{FieldSoFar}
use Rattle.krb_message_fields.proofs.places.rows.field.Given as goal

abbrev pub invariant-loop-passed : goal.invariant-loop-passed
invariant-loop-passed l = FieldSoFar l.tag l.octets l.passed

abbrev pub decreases-loop-passed : goal.decreases-loop-passed
decreases-loop-passed l = length l.octets - l.passed
