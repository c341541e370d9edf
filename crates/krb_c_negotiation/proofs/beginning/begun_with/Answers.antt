use Rattle.std.proofs.Common.{inr}
use Rattle.krb_c_negotiation.proofs.Results.{both_map}
use Rattle.krb_c_negotiation.proofs.beginning.begun_with.Goals as goal

pub returns-in-Some : goal.returns-in-Some
returns-in-Some c =
    both_map c.begun_of.result (λ begun is. (c.in-Some.first, (c.in-Some.others, (c.in-Some.ensures, is))))
    (λ e refuses. inr (c.in-Some.first, (c.in-Some.others.items, (c.in-Some.ensures, refuses)))) c.begun_of.ensures
