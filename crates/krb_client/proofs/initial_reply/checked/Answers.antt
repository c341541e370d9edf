use Rattle.std.proofs.Common.{refl}
use Rattle.krb_client.proofs.initial_reply.checked.Goals as goal

pub returns-in-Ok-clause-checked : goal.returns-in-Ok-clause-checked
returns-in-Ok-clause-checked c = rw c.clock_of-clock.ensures at c.in-Ok.ensures.found

pub returns-then-is_passed_over-clause-checked : goal.returns-then-is_passed_over-clause-checked
returns-then-is_passed_over-clause-checked c = (c.in-Err.error, rw c.clock_of-clock.ensures at c.in-Err.ensures.rejected, c.if-is_passed_over.ensures)

pub returns-else-is_passed_over-clause-rejected : goal.returns-else-is_passed_over-clause-rejected
returns-else-is_passed_over-clause-rejected c =
    (c.in-Err.error, refl, rw c.clock_of-clock.ensures at c.in-Err.ensures.rejected, c.if-is_passed_over.ensures)
