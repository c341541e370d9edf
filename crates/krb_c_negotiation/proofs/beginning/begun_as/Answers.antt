use Rattle.std.proofs.Common.{inr}
use Rattle.krb_c_negotiation.proofs.Results.{both_map}
use Rattle.krb_c_negotiation.proofs.beginning.begun_as.Goals as goal

pub returns-in-Ok : goal.returns-in-Ok
returns-in-Ok c =
    both_map c.begun_with.result (λ begun is. (c.in-Ok.mechanisms, (c.in-Ok.ensures, is)))
    (λ e refuses. inr (c.in-Ok.mechanisms, (c.in-Ok.ensures, refuses))) c.begun_with.ensures
