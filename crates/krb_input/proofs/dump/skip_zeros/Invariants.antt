use Rattle.std.proofs.Common.{◌≡◌, length}
use Rattle.krb_input.specs.Dump.{skip_zeros}
use Rattle.krb_input.proofs.dump.skip_zeros.Given as goal

abbrev pub invariant-loop-first : goal.invariant-loop-first
invariant-loop-first l = skip_zeros l.rest ≡ skip_zeros l.octets

abbrev pub decreases-loop-first : goal.decreases-loop-first
decreases-loop-first l = length l.rest
