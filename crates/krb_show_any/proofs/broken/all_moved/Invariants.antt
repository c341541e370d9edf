use Rattle.std.proofs.Common.{◌≡◌, take}
use Rattle.std.specs.Prelude.{map}
use Rattle.krb_show_any.specs.Broken.{moved}
use Rattle.krb_show_any.proofs.broken.all_moved.Given as goal

abbrev pub invariant-items : goal.invariant-items
invariant-items l = l.made.items ≡ map (moved l.start) (take l.item-index l.items)
