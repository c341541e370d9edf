use Rattle.krb_c_client.proofs.Results.{err_map}
use Rattle.krb_c_client.proofs.further.continued.Goals as goal

pub returns-clause-refused : goal.returns-clause-refused
returns-clause-refused c =
    err_map c.next.result (λ r is. record {
      terms = c.terms_of-terms.result;
      are_terms = c.terms_of-terms.ensures;
      is_not_next = rw c.offset_in.ensures at is;
    }) c.next.ensures.refused
