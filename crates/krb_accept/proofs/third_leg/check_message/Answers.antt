use Rattle.krb_accept.proofs.ThirdLegs.{agreed, not_agreed, not_opened}
use Rattle.krb_accept.proofs.third_leg.check_message.Goals as goal

pub returns-in-Some-clause-confirmed : goal.returns-in-Some-clause-confirmed
returns-in-Some-clause-confirmed c =
    agreed _ c.args.accepted.now c.args.sequence_number.now c.args.message.now c.part_in-sealed.result.now c.in-Some.part c.check_part.result
    c.if-not-has_numbers.ensures c.part_in-sealed.ensures (rw c.in-Some.is at c.in_ok-part.ensures) c.check_part.ensures.agreed

pub returns-in-Some-clause-refused : goal.returns-in-Some-clause-refused
returns-in-Some-clause-refused c =
    not_agreed _ c.args.accepted.now c.args.sequence_number.now c.args.message.now c.part_in-sealed.result.now c.in-Some.part c.check_part.result
    c.if-not-has_numbers.ensures c.part_in-sealed.ensures (rw c.in-Some.is at c.in_ok-part.ensures) c.check_part.ensures.refused

pub returns-in-None-clause-refused : goal.returns-in-None-clause-refused
returns-in-None-clause-refused c =
    not_opened _ c.args.accepted.now c.args.sequence_number.now c.args.message.now c.part_in-sealed.result.now c.if-not-has_numbers.ensures
    c.part_in-sealed.ensures (rw c.in-None.is at c.in_ok-part.ensures)
