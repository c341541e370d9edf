use Rattle.krb_c_client.proofs.Results.{ok_map}
use Rattle.krb_c_client.proofs.first.opened.Goals as goal

pub returns-clause-opens : goal.returns-clause-opens
returns-clause-opens c =
    ok_map c.begun.result (λ f is. record { terms = c.terms_of-terms.result; are_terms = c.terms_of-terms.ensures; is_beginning = is }) c.begun.ensures.begun
