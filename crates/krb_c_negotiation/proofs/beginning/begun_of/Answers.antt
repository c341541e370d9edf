use Rattle.std.proofs.Common.{inl}
use Rattle.krb_c_negotiation.proofs.beginning.begun_of.Goals as goal

pub returns-in-Ok-offered : goal.returns-in-Ok-offered
returns-in-Ok-offered c = inl ((c.in-Ok.initiator, c.in-Ok.offer), (c.in-Ok.ensures.begun, c.in-Ok-offered.ensures))
