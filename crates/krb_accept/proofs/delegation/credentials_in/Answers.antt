use Rattle.krb_accept.proofs.Delegations.{not_opened, not_paired}
use Rattle.krb_accept.proofs.delegation.credentials_in.Goals as goal

pub returns-in_default : goal.returns-in_default
returns-in_default c =
    not_opened _ c.args.accepted.now c.args.message c.part_in.result.now c.if-not-has_numbers.ensures c.part_in.ensures (rw c.in_default.is at c.in-Ok.ensures)

pub returns-then-not-is_paired : goal.returns-then-not-is_paired
returns-then-not-is_paired c =
    not_paired _ c.args.accepted.now c.args.message c.part_in.result.now c.in-Some.part c.if-not-has_numbers.ensures c.part_in.ensures
    (rw c.in-Some.is at c.in-Ok.ensures) c.if-not-is_paired.ensures
