use Rattle.std.proofs.Common.{◌+◌, length, take}
use Rattle.krb_pac.specs.Written.{head, padded}
use Rattle.krb_pac.proofs.Fill.{Filled}
use Rattle.krb_pac.proofs.Marks.{Marked}
use Rattle.krb_pac.proofs.writing.fill.Given as goal

abbrev pub invariant-buffers : goal.invariant-buffers
invariant-buffers l = Filled (head l.buffers + padded l.buffers) (head l.buffers) (length l.buffers) l.out (take l.i l.buffers) × Marked (head l.buffers + padded l.buffers) l.marks (take l.i l.buffers)
