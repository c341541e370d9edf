use Rattle.std.proofs.Common.{◌≡◌, take}
use Rattle.std.specs.List.{flat_map}
use Rattle.jolmurig.specs.Conversions.{note_of}
use Rattle.jolmurig.proofs.convert.notes_of.Given as goal

abbrev pub invariant-fields : goal.invariant-fields
invariant-fields l = l.notes.items ≡ flat_map note_of (take l.field-index l.left_out)
