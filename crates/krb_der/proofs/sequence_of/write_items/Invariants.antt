use Rattle.std.proofs.Common.{◌≡◌, ◌++◌, take}
use Rattle.std.specs.List.{flat_map, AllByRecursion}
use Rattle.krb_der.proofs.sequence_of.write_items.Given as goal

abbrev pub invariant-loop-item : goal.invariant-loop-item
invariant-loop-item g l =
    (l.out.items ≡ l.fn.out.items ++ flat_map g.T.DerEncode.enc (take l.item-index l.items))
    × AllByRecursion g.T.DerEncode.is_value (take l.item-index l.items)
