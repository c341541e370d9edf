use Rattle.std.proofs.Common.{◌≡◌, length}
use Rattle.krb_input.specs.Blanks.{skip_blanks}
use Rattle.krb_input.proofs.blanks.skip_blanks.Given as goal

abbrev pub invariant-loop-first : goal.invariant-loop-first
invariant-loop-first l = skip_blanks l.rest ≡ skip_blanks l.octets

abbrev pub decreases-loop-first : goal.decreases-loop-first
decreases-loop-first l = length l.rest
