use Rattle.std.proofs.Common.{◌≡◌, take}
use Rattle.krb_pac.proofs.pac.Pac.clone.Given as goal

abbrev pub invariant-buffers : goal.invariant-buffers
invariant-buffers l = l.buffers.items ≡ take l.buffer-index l.buffer-items
