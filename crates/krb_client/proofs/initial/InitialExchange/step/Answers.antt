use Rattle.std.proofs.Common.{refl}
use Rattle.krb_client.proofs.initial.InitialExchange.step.Goals as goal

pub returns-in-Send-clause-step : goal.returns-in-Send-clause-step
returns-in-Send-clause-step c = (c.in-Send.change, rw c.in-Send.is at c.in_ok-change.ensures.answer, c.take.ensures)

pub returns-in-Granted-clause-step : goal.returns-in-Granted-clause-step
returns-in-Granted-clause-step c = (rw c.in-Granted.is at c.in_ok-change.ensures.answer, refl)
