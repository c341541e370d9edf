use Rattle.std.proofs.Common.{refl}
use Rattle.krb_client.proofs.service.ServiceExchange.step.Goals as goal

pub returns-in-Granted-clause-step : goal.returns-in-Granted-clause-step
returns-in-Granted-clause-step c = (rw c.in-Granted.is at c.in_ok-offset.ensures.answer, refl)

pub returns-in-Send-clause-step : goal.returns-in-Send-clause-step
returns-in-Send-clause-step c = (c.in-Send.offset, rw c.in-Send.is at c.in_ok-offset.ensures.answer, c.take.ensures)
