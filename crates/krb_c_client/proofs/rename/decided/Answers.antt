use Rattle.std.proofs.Common.{refl}
use Rattle.std.proofs.lemmas.Result.{err_from_is_err_and}
use Rattle.krb_c_client.specs.Renamed.{not_prepared, not_read, not_taken}
use Rattle.krb_c_client.proofs.Results.{err_map, ok_map}
use Rattle.krb_c_client.proofs.rename.decided.Goals as goal

pub returns-in_err-prepared-clause-refused : goal.returns-in_err-prepared-clause-refused
returns-in_err-prepared-clause-refused c =
    let p = err_from_is_err_and c.from_residual.result c.from_residual.ensures.1 in
    rw (p.1, p.2) (not_prepared c.in_err-prepared.field-0.0 c.in_err-prepared.ensures.refused refl)

pub returns-in_err-exchange-clause-refused : goal.returns-in_err-exchange-clause-refused
returns-in_err-exchange-clause-refused c =
    let p = err_from_is_err_and c.from_residual-in_err-exchange.result c.from_residual-in_err-exchange.ensures.1 in
    rw (p.1, p.2) (not_read c.in_ok-prepared.prepared.asked c.in_ok-prepared.prepared.moment c.in_err-exchange.field-0.0 c.in_ok-prepared.ensures.made c.in_err-exchange.ensures.refused refl)

pub returns-clause-told : goal.returns-clause-told
returns-clause-told c =
    ok_map c.taken.result (λ t is. record {
      asked = c.in_ok-prepared.prepared.asked;
      moment = c.in_ok-prepared.prepared.moment;
      is_prepared = c.in_ok-prepared.ensures.made;
      exchange = c.in_ok-exchange.exchange;
      is_read = c.in_ok-exchange.ensures.read;
      terms = c.terms_of-terms.result;
      are_terms = c.terms_of-terms.ensures;
      is_taken = is;
    }) c.taken.ensures.taken

pub returns-clause-refused : goal.returns-clause-refused
returns-clause-refused c =
    err_map c.taken.result (λ r is. not_taken c.in_ok-prepared.prepared.asked c.in_ok-prepared.prepared.moment c.in_ok-exchange.exchange c.terms_of-terms.result
    c.in_ok-prepared.ensures.made c.in_ok-exchange.ensures.read c.terms_of-terms.ensures is) c.taken.ensures.refused
