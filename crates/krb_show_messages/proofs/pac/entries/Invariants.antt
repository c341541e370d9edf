use Rattle.std.proofs.Common.{◌≡◌, ◌≤◌, length, take}
use Rattle.krb_show_messages.specs.Pac.{entries_of}
use Rattle.krb_show_messages.proofs.pac.entries.Given as goal

abbrev pub invariant-loop-buffer : goal.invariant-loop-buffer
invariant-loop-buffer l = record {
  inside : l.buffer-index ≤ length l.buffers;
  entries : l.entries.items ≡ entries_of (take l.buffer-index l.buffers);
}
