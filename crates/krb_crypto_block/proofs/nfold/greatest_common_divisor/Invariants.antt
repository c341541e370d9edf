use Rattle.std.proofs.Common.{ℕ}
use Rattle.std.specs.Int.{IsGcd}
use Rattle.krb_crypto_block.proofs.nfold.greatest_common_divisor.Given as goal

abbrev pub invariant-loop-b : goal.invariant-loop-b
invariant-loop-b l = (g : ℕ) → IsGcd l.a l.b g → IsGcd l.fn.a l.fn.b g

abbrev pub decreases-loop-b : goal.decreases-loop-b
decreases-loop-b l = l.b
