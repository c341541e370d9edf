use Rattle.std.proofs.Common.{inl, inr}
use Rattle.krb_c_negotiation.proofs.Results.{both_map}
use Rattle.krb_c_negotiation.proofs.step.initiated.Goals as goal

pub returns-in-Err : goal.returns-in-Err
returns-in-Err c = inr (inr (c.in_ok-mechanisms.mechanisms, (c.in_ok-mechanisms.ensures, c.in-Err.ensures)))

pub returns-in-Ok : goal.returns-in-Ok
returns-in-Ok c =
    both_map c.initiated_by.result
    (λ step makes. (c.in_ok-mechanisms.mechanisms, (c.in_ok-mechanisms.ensures, (c.in-Ok.initiator, (c.in-Ok.ensures, makes)))))
    (λ e memory. inl memory) c.initiated_by.ensures
