use Rattle.std.proofs.Common.{◌≡◌, map, take}
use Rattle.krb_show_any.specs.Warnings.{warning_token}
use Rattle.krb_show_any.proofs.warnings.warnings_of.Given as goal

abbrev pub invariant-items : goal.invariant-items
invariant-items l = l.made.items ≡ map warning_token (take l.item-index l.items)
