use Rattle.std.proofs.Common.{◌≡◌, ◌++◌, take}
use Rattle.std.specs.List.{flat_map}
use Rattle.krb_show_pac.specs.Flags.{name_if_set}
use Rattle.krb_show_pac.proofs.flags.push_names.Given as goal

abbrev pub invariant-loop-row : goal.invariant-loop-row
invariant-loop-row l = l.note.items ≡ l.fn.note.items ++ flat_map (λ row. name_if_set l.number (row.0, row.1.now)) (take l.row-index l.rows)
