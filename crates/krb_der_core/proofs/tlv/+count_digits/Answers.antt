use Rattle.std.proofs.Common.{arith}
use Rattle.std.proofs.lemmas.Int.Digits.{length-digits_of_step, length-digits_of-le}
use Rattle.krb_der_core.proofs.tlv.+count_digits.Goals as goal

pub returns-clause-count : goal.returns-clause-count
returns-clause-count t c = omega (arith, c.count_digits.ensures.count, length-digits_of_step 256 c.args.n (omega arith) (omega arith))

pub returns-clause-few : goal.returns-clause-few
returns-clause-few t c = omega (arith, c.count_digits.ensures.count, length-digits_of_step 256 c.args.n (omega arith) (omega arith), length-digits_of-le 256 8 c.args.n (omega arith) (omega arith))
