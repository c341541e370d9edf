use Rattle.krb_accept.proofs.ThirdLegs.{has_another, has_number, unopened}
use Rattle.krb_accept.proofs.third_leg.confirm_message.Goals as goal

pub returns-in-Some-clause-confirmed : goal.returns-in-Some-clause-confirmed
returns-in-Some-clause-confirmed c =
    has_number _ _ c.args.key.now c.args.own_reply.now c.args.sequence_number.now c.args.message.now c.part_in-sealed.result.now c.in-Some.part
    c.check_number.result c.if-not-has_numbers.ensures (rw c.if-branch.false at c.in_ok-is_reflected.ensures) c.part_in-sealed.ensures
    (rw c.in-Some.is at c.in_ok-part.ensures) c.check_number.ensures.same

pub returns-in-Some-clause-refused : goal.returns-in-Some-clause-refused
returns-in-Some-clause-refused c =
    has_another _ _ c.args.key.now c.args.own_reply.now c.args.sequence_number.now c.args.message.now c.part_in-sealed.result.now c.in-Some.part
    c.check_number.result c.if-not-has_numbers.ensures (rw c.if-branch.false at c.in_ok-is_reflected.ensures) c.part_in-sealed.ensures
    (rw c.in-Some.is at c.in_ok-part.ensures) c.check_number.ensures.refused

pub returns-in-None-clause-refused : goal.returns-in-None-clause-refused
returns-in-None-clause-refused c =
    unopened _ _ c.args.key.now c.args.own_reply.now c.args.sequence_number.now c.args.message.now c.part_in-sealed.result.now
    c.if-not-has_numbers.ensures (rw c.if-branch.false at c.in_ok-is_reflected.ensures) c.part_in-sealed.ensures
    (rw c.in-None.is at c.in_ok-part.ensures)
