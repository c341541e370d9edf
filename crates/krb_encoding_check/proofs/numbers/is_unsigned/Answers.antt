use Rattle.std.proofs.Common.{arith}
use Rattle.krb_der_core.specs.IntegerLaws.{octets_below}
use Rattle.krb_encoding_check.proofs.Contents.{is_few, negative, no_integer, too_large, too_long}
use Rattle.krb_encoding_check.proofs.numbers.is_unsigned.Goals as goal

pub returns-then-not-is_shortest : goal.returns-then-not-is_shortest
returns-then-not-is_shortest c = no_integer c.args.content.now c.if-not-is_shortest.ensures

pub returns-then-content-gt-U64_OCTETS : goal.returns-then-content-gt-U64_OCTETS
returns-then-content-gt-U64_OCTETS c = too_long c.args.content.now (omega arith)

pub returns-then-content-ge128 : goal.returns-then-content-ge128
returns-then-content-ge128 c = negative c.args.content.now (omega arith) (omega arith)

pub returns-then-number-gt-MOST : goal.returns-then-number-gt-MOST
returns-then-number-gt-MOST c = too_large c.args.content.now c.number_of-number.result (omega arith) (omega arith) c.number_of-number.ensures (omega arith)

pub returns : goal.returns
returns c =
    is_few c.args.content.now c.number_of-number.result (octets_below c.args.content.now (λ i. omega (arith, c.type_inv.content i))) c.if-not-is_shortest.ensures (omega arith)
    (omega arith) c.number_of-number.ensures (omega arith)
