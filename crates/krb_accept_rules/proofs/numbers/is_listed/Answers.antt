use Rattle.std.proofs.Common.{◌≡◌, pos, subst}
use Rattle.std.proofs.lemmas.List.{take_all}
use Rattle.krb_accept_rules.specs.Firsts.{NoneIs}
use Rattle.krb_accept_rules.proofs.Firsts.{first_at, none_first}
use Rattle.krb_accept_rules.proofs.numbers.is_listed.Goals as goal

pub returns-then-is_number : goal.returns-then-is_number
returns-then-is_number c =
    first_at (λ n. c.args.integer.now ≡ pos n) c.args.numbers.now c.loop-number.number-index c.loop-number-test.true c.loop-number.invariant
    (rw c.if-is_number.true at c.is_number.ensures)

pub returns : goal.returns
returns c = none_first (λ n. c.args.integer.now ≡ pos n) c.args.numbers.now
    (subst (NoneIs (λ n. c.args.integer.now ≡ pos n)) (take_all c.loop-number.number-index c.args.numbers.now c.loop-number-test.false) c.loop-number.invariant)
