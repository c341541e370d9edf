use Rattle.krb_c_client.specs.Service.{no_answer}
use Rattle.krb_c_client.proofs.further.next.Goals as goal

pub returns-in_ok-told-in-Ok-clause-next : goal.returns-in_ok-told-in-Ok-clause-next
returns-in_ok-told-in-Ok-clause-next c = record {
  step = c.in-Ok.step;
  after = c.in-Ok.exchange;
  is_step = c.in-Ok.ensures.step;
  kept = c.written-kept.ensures;
  told_is = c.in_ok-told-in-Ok.ensures;
}

pub returns-in-Err-clause-refused : goal.returns-in-Err-clause-refused
returns-in-Err-clause-refused c = no_answer c.in-Err.error c.in-Err.ensures.refused c.client_refusal.ensures
