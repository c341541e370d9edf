use Rattle.std.proofs.Common.{inl}
use Rattle.krb_c_accept.proofs.call.decided.Goals as goal

pub returns-in-Ok : goal.returns-in-Ok
returns-in-Ok c = inl (c.in-Ok.prepared, c.in-Ok.ensures.made, c.outcome_of.ensures)
