use Rattle.std.proofs.Common.{inr}
use Rattle.krb_spnego.proofs.asking.after_offer.Goals as goal

pub returns-in-Ok : goal.returns-in-Ok
returns-in-Ok c = inr (c.in-Ok.proposal, (c.in-Ok.ensures.read, c.offer_asks.ensures))
