use Rattle.std.proofs.Common.{◌≡◌, take}
use Rattle.krb_pac.specs.Written.{padded}
use Rattle.krb_pac.proofs.writing.padded_size.Given as goal

abbrev pub invariant-sizes : goal.invariant-sizes
invariant-sizes l = l.total ≡ padded (take l.p-index l.buffers)
