use Rattle.std.proofs.Common.{◌≡◌, length}
use Rattle.krb_schema.specs.Paths.{named}
use Rattle.krb_schema.proofs.path.named.Given as goal

abbrev pub invariant-items : goal.invariant-items
invariant-items l = named l.depth l.name l.items ≡ named l.depth l.name l.rest

abbrev pub decreases-items : goal.decreases-items
decreases-items l = length l.rest
