use Rattle.std.proofs.Common.{◌≡◌, []}
use Rattle.krb_show.specs.Leaves.{AreFlags}
use Rattle.krb_show.proofs.notes.push_flags.Given as goal

abbrev pub invariant-loop-bit : goal.invariant-loop-bit
invariant-loop-bit l = l.fn.note.items ≡ [] → AreFlags l.kind l.flags.octets l.bit l.note.items
