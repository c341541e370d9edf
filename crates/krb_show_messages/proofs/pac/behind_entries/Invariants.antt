use Rattle.std.proofs.Common.{◌≡◌, ◌≤◌, ◌++◌, length, take}
use Rattle.krb_show_messages.specs.Pac.{entries_octets}
use Rattle.krb_show_messages.proofs.pac.behind_entries.Given as goal

abbrev pub invariant-entries : goal.invariant-entries
invariant-entries l = record {
  inside : l.buffer-index ≤ length l.buffers;
  begins : l.octets ≡ entries_octets (take l.buffer-index l.buffers) ++ l.rest;
}
