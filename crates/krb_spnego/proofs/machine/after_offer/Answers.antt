use Rattle.std.proofs.Common.{inr}
use Rattle.krb_spnego.proofs.machine.after_offer.Goals as goal

pub returns-in-Ok : goal.returns-in-Ok
returns-in-Ok g c = inr (c.in-Ok.proposal, (c.in-Ok.ensures.read, (c.offered-after.result, (c.offered-after.ensures, c.sent.ensures))))
