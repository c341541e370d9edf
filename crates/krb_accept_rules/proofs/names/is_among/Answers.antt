use Rattle.std.proofs.Common.{◌≡◌, subst}
use Rattle.std.proofs.lemmas.List.{take_all}
use Rattle.krb_accept_rules.specs.Firsts.{NoneIs}
use Rattle.krb_accept_rules.proofs.Firsts.{among_at, none_among}
use Rattle.krb_accept_rules.proofs.names.is_among.Goals as goal

pub returns-then-is_same_address : goal.returns-then-is_same_address
returns-then-is_same_address c =
    among_at c.args.addresses.now c.loop-other.other-index c.other-item.result c.args.address.now c.loop-other-test.true c.other-item.is
    (rw c.if-is_same_address.true at c.is_same_address.ensures)

pub returns : goal.returns
returns c = none_among c.args.addresses.now c.args.address.now
    (subst (NoneIs (λ x. x ≡ c.args.address.now)) (take_all c.loop-other.other-index c.args.addresses.now c.loop-other-test.false) c.loop-other.invariant)
