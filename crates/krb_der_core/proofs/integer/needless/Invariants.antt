use Rattle.std.proofs.Common.{◌≡◌, ◌<◌, ◌-◌, length, drop}
use Rattle.krb_der_core.specs.Integer.{whole_number}
use Rattle.krb_der_core.proofs.integer.needless.Given as goal

abbrev pub invariant-loop-n : goal.invariant-loop-n
invariant-loop-n l = (l.n < length l.octets) × (whole_number (drop l.n l.octets) ≡ whole_number l.octets)

abbrev pub decreases-loop-n : goal.decreases-loop-n
decreases-loop-n l = length l.octets - l.n
