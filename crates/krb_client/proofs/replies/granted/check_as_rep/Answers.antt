use Rattle.std.proofs.Common.{inl, inr}
use Rattle.std.proofs.lemmas.Result.{IfOk-weaker}
use Rattle.krb_client.proofs.Refusals.{other_refused}
use Rattle.krb_client.proofs.replies.granted.check_as_rep.Goals as goal

pub returns-then-is_no_part-clause-found : goal.returns-then-is_no_part-clause-found
returns-then-is_no_part-clause-found c =
    IfOk-weaker c.checked-then-is_no_part.result _ _ (λ _ h. inr h) c.checked-then-is_no_part.ensures.found

pub returns-then-is_no_part-clause-rejected : goal.returns-then-is_no_part-clause-rejected
returns-then-is_no_part-clause-rejected c =
    other_refused _ _ _ c.args.asked.now c.args.clock.now c.args.key.now c.args.octets.now c.checked-then-is_no_part.result c.in-Err.error
    c.if-is_no_part.ensures c.in-Err.ensures.rejected c.checked-then-is_no_part.ensures.rejected

pub returns-else-is_no_part-clause-rejected : goal.returns-else-is_no_part-clause-rejected
returns-else-is_no_part-clause-rejected c = inl (c.in-Err.ensures.rejected, c.if-is_no_part.ensures)
