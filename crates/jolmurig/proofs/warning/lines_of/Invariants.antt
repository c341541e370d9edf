use Rattle.std.proofs.Common.{◌≡◌, take}
use Rattle.std.specs.List.{flat_map}
use Rattle.jolmurig.specs.Warnings.{warning_of}
use Rattle.jolmurig.proofs.warning.lines_of.Given as goal

abbrev pub invariant-items : goal.invariant-items
invariant-items l = l.lines.items ≡ flat_map (warning_of l.kind) (take l.item-index l.items)
