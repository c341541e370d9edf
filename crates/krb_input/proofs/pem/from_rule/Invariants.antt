use Rattle.std.proofs.Common.{◌≡◌, length}
use Rattle.krb_input.specs.Pem.{from_rule}
use Rattle.krb_input.proofs.pem.from_rule.Given as goal

abbrev pub invariant-loop-first : goal.invariant-loop-first
invariant-loop-first l = from_rule l.rest ≡ from_rule l.octets

abbrev pub decreases-loop-first : goal.decreases-loop-first
decreases-loop-first l = length l.rest
