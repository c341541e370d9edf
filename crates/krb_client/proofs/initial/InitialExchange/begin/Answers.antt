use Rattle.std.proofs.Common.{◌⊎◌, inl, inr}
use Rattle.krb_client.proofs.initial.InitialExchange.begin.Goals as goal

-- without a key there is no time that could be refused
without_time : {M P Q : Type 0} → M ⊎ (⊥ ⊎ (P × Q)) → M ⊎ Q
without_time (inl m) = inl m
without_time (inr (inl none)) = absurd none
without_time (inr (inr (_, q))) = inr q

pub returns-in-Err-clause-rejected : goal.returns-in-Err-clause-rejected
returns-in-Err-clause-rejected c = without_time c.in-Err.ensures.rejected
