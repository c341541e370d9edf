use Rattle.std.proofs.Common.{◌≡◌, []}
use Rattle.krb_show_tokens.specs.Leaves.{AreTokenFlags}
use Rattle.krb_show_tokens.proofs.leaves.push_flags.Given as goal

abbrev pub invariant-loop-bit : goal.invariant-loop-bit
invariant-loop-bit l = l.fn.note.items ≡ [] → AreTokenFlags l.flags l.bit l.note.items
