use Rattle.std.proofs.Common.{refl}
use Rattle.std.proofs.lemmas.Result.{err_from_is_err_and}
use Rattle.krb_c_client.specs.Initial.{no_keys, not_next}
use Rattle.krb_c_client.proofs.Results.{err_map, ok_map}
use Rattle.krb_c_client.proofs.first.answered.Goals as goal

pub returns-then-is_absent-clause-answered : goal.returns-then-is_absent-clause-answered
returns-then-is_absent-clause-answered c =
    ok_map c.next.result (λ f is. record {
      terms = c.terms_of-terms.result;
      are_terms = c.terms_of-terms.ensures;
      secret = _;
      is_secret = (c.if-is_absent.ensures, refl);
      is_next = is;
    }) c.next.ensures.next

pub returns-then-is_absent-clause-refused : goal.returns-then-is_absent-clause-refused
returns-then-is_absent-clause-refused c =
    err_map c.next.result (λ r is. not_next c.terms_of-terms.result _ c.terms_of-terms.ensures (c.if-is_absent.ensures, refl) is) c.next.ensures.refused

pub returns-in_err-keys-clause-refused : goal.returns-in_err-keys-clause-refused
returns-in_err-keys-clause-refused c =
    let p = err_from_is_err_and c.from_residual.result c.from_residual.ensures.1 in
    rw (p.1, p.2) (no_keys c.in_err-keys.field-0.0 c.if-is_absent.ensures c.in_err-keys.ensures.refused refl)

pub returns-clause-answered : goal.returns-clause-answered
returns-clause-answered c =
    ok_map c.next-2.result (λ f is. record {
      terms = c.terms_of-terms.result;
      are_terms = c.terms_of-terms.ensures;
      secret = _;
      is_secret = (c.if-is_absent.ensures, rw c.as_slice.ensures.value c.in_ok-keys.ensures.found);
      is_next = is;
    }) c.next-2.ensures.next

pub returns-clause-refused : goal.returns-clause-refused
returns-clause-refused c =
    err_map c.next-2.result (λ r is. not_next c.terms_of-terms.result _ c.terms_of-terms.ensures
    (c.if-is_absent.ensures, rw c.as_slice.ensures.value c.in_ok-keys.ensures.found) is) c.next-2.ensures.refused
