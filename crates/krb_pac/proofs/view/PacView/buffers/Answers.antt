use Rattle.std.proofs.Common.{arith}
use Rattle.krb_pac.proofs.Viewed.{length_buffers}
use Rattle.krb_pac.proofs.view.PacView.buffers.Goals as goal

pub invariant_of-result-2 : goal.invariant_of-result-2
invariant_of-result-2 c = omega (arith, length_buffers c.self.inside.octets.now 0 c.self.inside.count, c.self.invariant.0)
