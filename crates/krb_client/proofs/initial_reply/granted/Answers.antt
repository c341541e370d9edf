use Rattle.std.proofs.Common.{inl, inr}
use Rattle.std.proofs.lemmas.Result.{IfErr-weaker, IfOk-weaker}
use Rattle.krb_client.proofs.initial_reply.granted.Goals as goal

pub returns-in-Some-clause-granted : goal.returns-in-Some-clause-granted
returns-in-Some-clause-granted c =
    IfOk-weaker c.checked.result _ _ (λ _ h. (c.in-Some.key, inl c.in-Some.is, h)) c.checked.ensures.checked

pub returns-in-Some-clause-rejected : goal.returns-in-Some-clause-rejected
returns-in-Some-clause-rejected c =
    IfErr-weaker c.checked.result _ _ (λ _ h. inr (c.in-Some.key, inl c.in-Some.is, h)) c.checked.ensures.rejected

pub returns-in_ok-key-in-None-clause-granted : goal.returns-in_ok-key-in-None-clause-granted
returns-in_ok-key-in-None-clause-granted c =
    let used = inr (c.in-None.is, c.in_ok-key-in-None.ensures.made) in
    IfOk-weaker c.checked-in-None.result _ _ (λ _ h. (c.in_ok-key-in-None.key, used, h)) c.checked-in-None.ensures.checked

pub returns-in_ok-key-in-None-clause-rejected : goal.returns-in_ok-key-in-None-clause-rejected
returns-in_ok-key-in-None-clause-rejected c =
    let used = inr (c.in-None.is, c.in_ok-key-in-None.ensures.made) in
    IfErr-weaker c.checked-in-None.result _ _ (λ _ h. inr (c.in_ok-key-in-None.key, used, h)) c.checked-in-None.ensures.rejected
