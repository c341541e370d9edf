use Rattle.std.proofs.Common.{◌≡◌, ◌≤◌, ◌++◌, length, take}
use Rattle.std.specs.List.{flat_map}
use Rattle.krb_show_messages.specs.Pac.{padded_octets}
use Rattle.krb_show_messages.proofs.pac.behind_buffers.Given as goal

abbrev pub invariant-buffers : goal.invariant-buffers
invariant-buffers l = record {
  inside : l.buffer-index ≤ length l.buffers;
  begins : l.octets ≡ flat_map padded_octets (take l.buffer-index l.buffers) ++ l.rest;
}
