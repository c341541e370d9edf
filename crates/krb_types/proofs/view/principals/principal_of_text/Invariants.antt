use Rattle.std.specs.List.{AllByRecursion}
use Rattle.std.specs.Str.{IsAscii}
use Rattle.krb_types.proofs.Quoting.{IsBetween, octets_left}
use Rattle.krb_types.proofs.view.principals.principal_of_text.Given as goal

abbrev pub invariant-loop-unread : goal.invariant-loop-unread
invariant-loop-unread l = AllByRecursion IsAscii l.components.items × IsBetween (λ b. b.now) l.text l.components.items l.rest l.unread

abbrev pub decreases-loop-unread : goal.decreases-loop-unread
decreases-loop-unread l = octets_left (λ b. b.now) l.unread
