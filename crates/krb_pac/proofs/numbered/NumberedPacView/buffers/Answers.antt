use Rattle.std.proofs.Common.{arith}
use Rattle.krb_pac.proofs.Numbering.{length_numbered}
use Rattle.krb_pac.proofs.numbered.NumberedPacView.buffers.Goals as goal

pub invariant_of-result-2 : goal.invariant_of-result-2
invariant_of-result-2 c = omega (arith, length_numbered c.self.inside.octets.now c.self.inside.count, c.self.invariant.0)
