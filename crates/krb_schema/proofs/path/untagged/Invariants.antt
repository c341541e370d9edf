use Rattle.std.proofs.Common.{◌≡◌, length}
use Rattle.krb_schema.specs.Paths.{untagged}
use Rattle.krb_schema.proofs.path.untagged.Given as goal

abbrev pub invariant-items : goal.invariant-items
invariant-items l = untagged l.items ≡ untagged l.rest

abbrev pub decreases-items : goal.decreases-items
decreases-items l = length l.rest
