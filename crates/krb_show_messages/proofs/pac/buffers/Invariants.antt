use Rattle.std.proofs.Common.{◌≡◌, ◌++◌}
use Rattle.krb_show_messages.proofs.pac.buffers.Given as goal

abbrev pub invariant-loop-buffer : goal.invariant-loop-buffer
invariant-loop-buffer l =
    (goal.iterator-loop-buffer).can_next l.buffer-iterator ×
    (goal.iterator-loop-buffer).is_finite l.buffer-iterator ×
    (l.buffers.items ++ l.buffer-iterator ≡ l.pac)
