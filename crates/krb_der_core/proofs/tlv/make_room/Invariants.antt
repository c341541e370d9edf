use Rattle.std.proofs.Common.{◌≡◌, ◌+◌, length, take, drop}
use Rattle.krb_der_core.proofs.tlv.make_room.Given as goal

abbrev pub invariant-loop-moved : goal.invariant-loop-moved
invariant-loop-moved l = record {
  before : take l.place l.out.items ≡ take l.place l.fn.out.items;
  after : drop (l.place + l.moved) l.out.items ≡ drop l.place l.fn.out.items;
  size : length l.out.items ≡ length l.fn.out.items + l.moved;
}
