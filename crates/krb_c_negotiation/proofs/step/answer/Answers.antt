use Rattle.std.proofs.Common.{inl}
use Rattle.krb_c_negotiation.proofs.step.answer.Goals as goal

pub returns-in-Ok : goal.returns-in-Ok
returns-in-Ok c = inl (c.in-Ok.step, (c.in-Ok.ensures, (c.hand_over.ensures.put, c.hand_over.ensures.handed)))
