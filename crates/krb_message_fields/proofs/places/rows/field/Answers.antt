use Rattle.std.proofs.Common.{◌≡◌, ◌-◌, length, take, drop, arith}
use Rattle.std.proofs.lemmas.List.{take_rest}
use Rattle.krb_message_fields.proofs.Walks.{ended, field_begun, field_found, field_passed, field_stopped, passes}
use Rattle.krb_message_fields.proofs.places.rows.field.Goals as goal

pub loop-passed-init : goal.loop-passed-init
loop-passed-init c = field_begun c.args.tag c.args.octets.now

pub returns-in_default : goal.returns-in_default
returns-in_default c =
    let rest : take (length c.args.octets.now - c.loop-passed.passed) (drop c.loop-passed.passed c.args.octets.now) ≡ drop c.loop-passed.passed c.args.octets.now = take_rest c.args.octets.now c.loop-passed.passed in
    field_stopped c.args.tag c.loop-passed.passed c.args.octets.now (rw rest at c.in_default.ensures) c.loop-passed.invariant

pub overflow_sub-offset : goal.overflow_sub-offset
overflow_sub-offset c =
    let rest : take (length c.args.octets.now - c.loop-passed.passed) (drop c.loop-passed.passed c.args.octets.now) ≡ drop c.loop-passed.passed c.args.octets.now = take_rest c.args.octets.now c.loop-passed.passed in
    (passes _ _ c.loop-passed.passed c.in-Some.next.size c.args.octets.now c.loop-passed.invariant.within (rw rest at c.in-Some.ensures)).content

pub returns-then-next-tag : goal.returns-then-next-tag
returns-then-next-tag c =
    let rest : take (length c.args.octets.now - c.loop-passed.passed) (drop c.loop-passed.passed c.args.octets.now) ≡ drop c.loop-passed.passed c.args.octets.now = take_rest c.args.octets.now c.loop-passed.passed in
    field_found c.args.tag c.in-Some.next.content.now c.loop-passed.passed c.in-Some.next.size c.args.octets.now (rw (rest, c.if-next-tag.true) at c.in-Some.ensures) c.loop-passed.invariant

pub loop-passed-smaller : goal.loop-passed-smaller
loop-passed-smaller c =
    let rest : take (length c.args.octets.now - c.loop-passed.passed) (drop c.loop-passed.passed c.args.octets.now) ≡ drop c.loop-passed.passed c.args.octets.now = take_rest c.args.octets.now c.loop-passed.passed in
    let p = passes _ _ c.loop-passed.passed c.in-Some.next.size c.args.octets.now c.loop-passed.invariant.within (rw rest at c.in-Some.ensures) in
    omega (arith, p.some, p.inside)

pub loop-passed-preserved : goal.loop-passed-preserved
loop-passed-preserved c =
    let rest : take (length c.args.octets.now - c.loop-passed.passed) (drop c.loop-passed.passed c.args.octets.now) ≡ drop c.loop-passed.passed c.args.octets.now = take_rest c.args.octets.now c.loop-passed.passed in
    field_passed c.args.tag c.in-Some.next.tag c.in-Some.next.content.now c.loop-passed.passed c.in-Some.next.size c.args.octets.now c.if-next-tag.false (rw rest at c.in-Some.ensures) c.loop-passed.invariant

pub returns : goal.returns
returns c = field_stopped c.args.tag c.loop-passed.passed c.args.octets.now (ended c.loop-passed.passed c.args.octets.now c.loop-passed-test.false) c.loop-passed.invariant
