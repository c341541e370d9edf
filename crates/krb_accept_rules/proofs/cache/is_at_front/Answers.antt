use Rattle.std.proofs.Common.{◌≡◌, ◌<ℤ◌, rules, subst}
use Rattle.std.proofs.lemmas.List.{take_all}
use Rattle.krb_accept_rules.specs.Firsts.{NoneIs}
use Rattle.krb_accept_rules.proofs.Firsts.{among_at, none_among}
use Rattle.krb_accept_rules.proofs.Orders.{none_from}
use Rattle.krb_accept_rules.proofs.cache.is_at_front.Goals as goal

pub returns-then-is_same_entry : goal.returns-then-is_same_entry
returns-then-is_same_entry c =
    among_at c.args.entries.now c.loop-other.other-index c.other-item.result c.args.entry.now c.loop-other-test.true c.other-item.is
    (rw c.if-is_same_entry.true at c.is_same_entry.ensures)

pub returns : goal.returns
returns c = none_among c.args.entries.now c.args.entry.now
    (subst (NoneIs (λ x. x ≡ c.args.entry.now)) (take_all c.loop-other.other-index c.args.entries.now c.loop-other-test.false) c.loop-other.invariant)

pub returns-then-other-entry : goal.returns-then-other-entry
returns-then-other-entry c =
    let later : c.args.entry.now.seconds <ℤ c.other-item.result.seconds = search rules in
    none_from c.args.entries.now c.loop-other.other-index c.args.entry.now c.other-item.result c.loop-other-test.true c.other-item.is c.requires c.loop-other.invariant
    later
