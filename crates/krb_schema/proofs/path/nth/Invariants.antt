use Rattle.std.proofs.Common.{◌≡◌, length}
use Rattle.krb_schema.specs.Paths.{nth}
use Rattle.krb_schema.proofs.path.nth.Given as goal

abbrev pub invariant-items : goal.invariant-items
invariant-items l = nth l.depth l.n l.items ≡ nth l.depth l.left l.rest

abbrev pub decreases-items : goal.decreases-items
decreases-items l = length l.rest
