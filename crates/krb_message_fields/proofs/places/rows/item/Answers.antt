use Rattle.std.proofs.Common.{◌≡◌, ◌-◌, suc, length, take, drop, subst, arith, ℕ}
use Rattle.std.proofs.lemmas.List.{take_rest}
use Rattle.krb_message_fields.proofs.Walks.{ItemSoFar, ended, item_begun, item_found, item_passed, item_stopped, passes}
use Rattle.krb_message_fields.proofs.places.rows.item.Goals as goal

pub loop-passed-init : goal.loop-passed-init
loop-passed-init c = item_begun c.args.index c.args.octets.now

pub returns-in_default : goal.returns-in_default
returns-in_default c =
    let rest : take (length c.args.octets.now - c.loop-passed.passed) (drop c.loop-passed.passed c.args.octets.now) ≡ drop c.loop-passed.passed c.args.octets.now = take_rest c.args.octets.now c.loop-passed.passed in
    item_stopped c.args.index c.loop-passed.left c.loop-passed.passed c.args.octets.now (rw rest at c.in_default.ensures) c.loop-passed.invariant

pub returns-then-left-eq0 : goal.returns-then-left-eq0
returns-then-left-eq0 c =
    let rest : take (length c.args.octets.now - c.loop-passed.passed) (drop c.loop-passed.passed c.args.octets.now) ≡ drop c.loop-passed.passed c.args.octets.now = take_rest c.args.octets.now c.loop-passed.passed in
    item_found c.args.index c.in-Some.next.tag c.in-Some.next.content.now c.loop-passed.passed c.in-Some.next.size c.args.octets.now (rw rest at c.in-Some.ensures)
    (subst (λ (n : ℕ). ItemSoFar c.args.index n c.args.octets.now c.loop-passed.passed) c.if-left-eq0.true c.loop-passed.invariant)

pub loop-passed-smaller : goal.loop-passed-smaller
loop-passed-smaller c =
    let rest : take (length c.args.octets.now - c.loop-passed.passed) (drop c.loop-passed.passed c.args.octets.now) ≡ drop c.loop-passed.passed c.args.octets.now = take_rest c.args.octets.now c.loop-passed.passed in
    let p = passes _ _ c.loop-passed.passed c.in-Some.next.size c.args.octets.now c.loop-passed.invariant.within (rw rest at c.in-Some.ensures) in
    omega (arith, p.some, p.inside)

pub loop-passed-preserved : goal.loop-passed-preserved
loop-passed-preserved c =
    let rest : take (length c.args.octets.now - c.loop-passed.passed) (drop c.loop-passed.passed c.args.octets.now) ≡ drop c.loop-passed.passed c.args.octets.now = take_rest c.args.octets.now c.loop-passed.passed in
    let more : c.loop-passed.left ≡ suc (c.loop-passed.left - 1) = omega arith in
    item_passed c.args.index (c.loop-passed.left - 1) c.in-Some.next.tag c.in-Some.next.content.now c.loop-passed.passed c.in-Some.next.size c.args.octets.now (rw rest at c.in-Some.ensures)
    (subst (λ (n : ℕ). ItemSoFar c.args.index n c.args.octets.now c.loop-passed.passed) more c.loop-passed.invariant)

pub returns : goal.returns
returns c = item_stopped c.args.index c.loop-passed.left c.loop-passed.passed c.args.octets.now (ended c.loop-passed.passed c.args.octets.now c.loop-passed-test.false) c.loop-passed.invariant
