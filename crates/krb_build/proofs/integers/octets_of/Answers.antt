use Rattle.std.proofs.Common.{arith}
use Rattle.std.proofs.lemmas.Int.{ints}
use Rattle.krb_build.proofs.Numbers.{of_negative, of_positive}
use Rattle.krb_build.proofs.integers.octets_of.Goals as goal

pub returns-then-number-lt0 : goal.returns-then-number-lt0
returns-then-number-lt0 c =
    of_negative c.complement.result c.args.number c.new-octets.result.items _ _ c.in_ok-push_inverted.ensures c.in_ok-push.ensures.items c.new-octets.ensures.items
    (omega (arith, ints, c.ranges.number.sfits, c.complement.ensures.negative (omega (arith, ints, c.if-number-lt0.true))))

pub returns : goal.returns
returns c =
    of_positive c.complement-2.result c.args.number c.new-octets.result.items _ _ c.in_ok-push_digits.ensures c.in_ok-push-2.ensures.items c.new-octets.ensures.items
    (omega (arith, ints, c.ranges.number.sfits, c.complement-2.ensures.other (omega (arith, ints, c.if-number-lt0.false))))
