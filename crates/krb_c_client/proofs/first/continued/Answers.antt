use Rattle.std.proofs.Common.{refl}
use Rattle.std.proofs.lemmas.Result.{err_from_is_err_and}
use Rattle.krb_c_client.specs.Initial.{not_answered, not_read}
use Rattle.krb_c_client.proofs.Results.{err_map, ok_map}
use Rattle.krb_c_client.proofs.first.continued.Goals as goal

pub returns-in_err-exchange-clause-refused : goal.returns-in_err-exchange-clause-refused
returns-in_err-exchange-clause-refused c =
    let p = err_from_is_err_and c.from_residual.result c.from_residual.ensures.1 in
    rw (p.1, p.2) (not_read c.in_err-exchange.field-0.0 c.in_err-exchange.ensures.refused refl)

pub returns-clause-goes_on : goal.returns-clause-goes_on
returns-clause-goes_on c =
    ok_map c.answered.result (λ f is. record { exchange = c.in_ok-exchange.exchange; is_read = c.in_ok-exchange.ensures.read; is_answered = is })
    c.answered.ensures.answered

pub returns-clause-refused : goal.returns-clause-refused
returns-clause-refused c =
    err_map c.answered.result (λ r is. not_answered c.in_ok-exchange.exchange c.in_ok-exchange.ensures.read is) c.answered.ensures.refused
