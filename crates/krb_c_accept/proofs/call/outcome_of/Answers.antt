use Rattle.std.proofs.Common.{inl}
use Rattle.krb_c_accept.proofs.SessionKeys.{of_its_length}
use Rattle.krb_c_accept.proofs.call.outcome_of.Goals as goal

pub returns-in-Ok : goal.returns-in-Ok
returns-in-Ok c = inl (c.in-Ok.let_in, c.in-Ok.ensures.let_in, c.answered-outcome.ensures)

pub answered-outcome-requires-clause-key : goal.answered-outcome-requires-clause-key
answered-outcome-requires-clause-key c =
    of_its_length _ _ _ _ c.args.prepared.now c.args.asked.now.token.now c.in-Ok.let_in
    (λ key r u h. record { suite = h.suite; of_suite = h.of_suite; size = h.seals.1.size }) c.in-Ok.ensures.let_in
