use Rattle.std.proofs.Common.{arith}
use Rattle.krb_der_core.proofs.Unsigned32.{small_digit, large_digit}
use Rattle.krb_der_core.proofs.unsigned.+first_digit.Goals as goal

pub returns-then-n-lt256 : goal.returns-then-n-lt256
returns-then-n-lt256 t c = small_digit c.args.n c.if-n-lt256.true

pub returns : goal.returns
returns t c = large_digit c.args.n c.first_digit.result (omega (arith, c.if-n-lt256.false)) c.first_digit.ensures
