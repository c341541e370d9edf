use Rattle.std.proofs.Common.{◌≡◌, ◌≤◌, ◌+◌, ◌*◌, ◌++◌, length, take}
use Rattle.krb_show_messages.specs.Places.{each_places}
use Rattle.krb_show_messages.proofs.pac.places.push_buffers.Given as goal

abbrev pub invariant-buffers : goal.invariant-buffers
invariant-buffers l = record {
  inside : l.buffer-index ≤ length l.buffers;
  at : l.at ≡ 8 + 16 * l.buffer-index;
  so_far : l.places.items ≡ l.fn.places.items ++ each_places l.has_octets 0 (take l.buffer-index l.buffers);
}
