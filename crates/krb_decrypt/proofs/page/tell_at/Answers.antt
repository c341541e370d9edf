use Rattle.std.proofs.lemmas.Result.{on_ok_weaker}
use Rattle.krb_decrypt.proofs.page.tell_at.Goals as goal

pub returns-clause-ok : goal.returns-clause-ok
returns-clause-ok g c =
    on_ok_weaker c.push_outcome.result (λ told. (c.in_ok-outcome.outcome, rw c.as_slice.ensures.value at c.in_ok-outcome.ensures, told)) c.push_outcome.ensures.ok
