use Rattle.std.proofs.Common.{inr, refl}
use Rattle.krb_spnego.proofs.asking.bare_asks.Goals as goal

pub returns-in-Ok : goal.returns-in-Ok
returns-in-Ok c = inr (c.in-Ok.own, (c.in-Ok.ensures.items, refl))
