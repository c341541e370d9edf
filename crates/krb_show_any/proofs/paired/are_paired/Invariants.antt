use Rattle.std.proofs.Common.{◌≡◌, [], length}
use Rattle.krb_show_any.specs.Paired.{are_paired}
use Rattle.krb_show_any.proofs.paired.are_paired.Given as goal

abbrev pub invariant-tokens : goal.invariant-tokens
invariant-tokens l = are_paired l.begun.items l.rest ≡ are_paired [] l.page

abbrev pub decreases-tokens : goal.decreases-tokens
decreases-tokens l = length l.rest
