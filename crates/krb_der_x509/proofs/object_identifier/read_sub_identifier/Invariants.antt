use Rattle.std.proofs.Common.{◌-◌, length}
use Rattle.krb_der_x509.proofs.ObjectIdentifiers.{SubSoFar}
use Rattle.krb_der_x509.proofs.object_identifier.read_sub_identifier.Given as goal

abbrev pub invariant-loop-taken : goal.invariant-loop-taken
invariant-loop-taken l = SubSoFar l.octets l.taken l.n

abbrev pub decreases-loop-taken : goal.decreases-loop-taken
decreases-loop-taken l = length l.octets - l.taken
