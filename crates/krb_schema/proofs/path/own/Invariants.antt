use Rattle.std.proofs.Common.{◌≡◌, length}
use Rattle.krb_schema.specs.Paths.{own}
use Rattle.krb_schema.proofs.path.own.Given as goal

abbrev pub invariant-items : goal.invariant-items
invariant-items l = own l.items ≡ own l.rest

abbrev pub decreases-items : goal.decreases-items
decreases-items l = length l.rest
