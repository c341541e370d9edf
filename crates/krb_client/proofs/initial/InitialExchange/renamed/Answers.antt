use Rattle.std.proofs.Common.{refl}
use Rattle.krb_client.specs.Renamed.{not_granted, not_of_request}
use Rattle.krb_client.proofs.initial.InitialExchange.renamed.Goals as goal

pub returns-in-Ok-check_request-clause-granted : goal.returns-in-Ok-check_request-clause-granted
returns-in-Ok-check_request-clause-granted c = record {
  key = c.in-Some.key;
  is_key = c.in-Some.is;
  is_granted = rw c.clock_of-clock.ensures at c.in-Ok.ensures.found;
  has = c.in-Ok-check_request.ensures.has;
}

pub returns-in-Err-check_request-clause-rejected : goal.returns-in-Err-check_request-clause-rejected
returns-in-Err-check_request-clause-rejected c =
    not_of_request c.in-Some.key c.in-Ok.granted c.in-Some.is (rw c.clock_of-clock.ensures at c.in-Ok.ensures.found)
    c.in-Err-check_request.ensures.rejected

pub returns-in-Err-clause-rejected : goal.returns-in-Err-clause-rejected
returns-in-Err-clause-rejected c =
    not_granted c.in-Some.key c.in-Err.error c.in-Some.is (rw c.clock_of-clock.ensures at c.in-Err.ensures.rejected) refl
