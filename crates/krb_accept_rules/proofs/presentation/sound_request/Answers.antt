use Rattle.std.proofs.Common.{inr}
use Rattle.krb_accept_rules.specs.Presenting.{at_request}
use Rattle.krb_accept_rules.proofs.presentation.sound_request.Goals as goal

pub returns-in-Err-clause-rejected : goal.returns-in-Err-clause-rejected
returns-in-Err-clause-rejected g c = inr (at_request c.in_ok-request.request c.in_ok-request.ensures.found c.in-Err.ensures.broken)
