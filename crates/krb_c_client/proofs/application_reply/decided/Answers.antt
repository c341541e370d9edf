use Rattle.std.proofs.Common.{refl}
use Rattle.std.proofs.lemmas.Result.{err_from_is_err_and}
use Rattle.krb_c_client.specs.Confirmed.{no_suite, not_confirmed}
use Rattle.krb_c_client.proofs.application_reply.decided.Goals as goal

pub returns-in_err-key-clause-refused : goal.returns-in_err-key-clause-refused
returns-in_err-key-clause-refused c =
    let p = err_from_is_err_and c.from_residual.result c.from_residual.ensures.1 in
    rw (p.1, p.2) (no_suite c.in_err-key.field-0.0 c.in_err-key.ensures.refused refl)

pub returns-in-Ok-clause-confirmed : goal.returns-in-Ok-clause-confirmed
returns-in-Ok-clause-confirmed c = record {
  key = c.in_ok-key.key;
  is_key = c.in_ok-key.ensures.found;
  part = c.in-Ok.part;
  is_confirmed = rw c.sent_of-sent.ensures at c.in-Ok.ensures.found;
  octets_are = c.in_ok-part_octets-in-Ok.ensures;
}

pub returns-clause-refused : goal.returns-clause-refused
returns-clause-refused c = not_confirmed c.in_ok-key.key c.in-Err.error c.in_ok-key.ensures.found (rw c.sent_of-sent.ensures at c.in-Err.ensures.rejected) c.reply_refusal.ensures
