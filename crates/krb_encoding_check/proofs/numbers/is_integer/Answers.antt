use Rattle.std.proofs.Common.{arith}
use Rattle.krb_der_core.specs.IntegerLaws.{octets_below}
use Rattle.krb_encoding_check.proofs.Contents.{integer_content}
use Rattle.krb_encoding_check.proofs.numbers.is_integer.Goals as goal

pub returns : goal.returns
returns c = integer_content c.args.content.now c.is_shortest.result (octets_below c.args.content.now (λ i. omega (arith, c.type_inv.content i))) c.is_shortest.ensures
