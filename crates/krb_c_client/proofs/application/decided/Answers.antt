use Rattle.std.proofs.Common.{inr, refl}
use Rattle.std.proofs.lemmas.Result.{err_from_is_err_and}
use Rattle.krb_c_client.specs.Application.{no_bindings, no_client, no_request, no_suite, no_ticket}
use Rattle.krb_c_client.proofs.Results.{err_map, ok_map}
use Rattle.krb_c_client.proofs.application.decided.Goals as goal

pub returns-in_err-bindings-clause-refused : goal.returns-in_err-bindings-clause-refused
returns-in_err-bindings-clause-refused c =
    let p = err_from_is_err_and c.from_residual-in_err-bindings.result c.from_residual-in_err-bindings.ensures.1 in
    rw (p.1, p.2) (no_bindings c.in_err-bindings.field-0.0 c.in_ok-check_random.ensures.right c.in_err-bindings.ensures.refused refl)

pub returns-in_err-suite-clause-refused : goal.returns-in_err-suite-clause-refused
returns-in_err-suite-clause-refused c =
    let p = err_from_is_err_and c.from_residual-in_err-suite.result c.from_residual-in_err-suite.ensures.1 in
    rw (p.1, p.2) (no_suite c.in_err-suite.field-0.0 (c.in_ok-check_random.ensures.right, (c.in_ok-bindings.bindings, c.in_ok-bindings.ensures.found)) (inr c.in_err-suite.ensures) refl)

pub returns-in_err-client-clause-refused : goal.returns-in_err-client-clause-refused
returns-in_err-client-clause-refused c =
    let p = err_from_is_err_and c.from_residual-in_err-client.result c.from_residual-in_err-client.ensures.1 in
    rw (p.1, p.2) (no_client c.in_err-client.field-0.0 ((c.in_ok-check_random.ensures.right, (c.in_ok-bindings.bindings, c.in_ok-bindings.ensures.found)), (c.in_ok-suite.suite, c.in_ok-suite.ensures)) c.in_err-client.ensures.refused refl)

pub returns-in_err-ticket-clause-refused : goal.returns-in_err-ticket-clause-refused
returns-in_err-ticket-clause-refused c =
    let p = err_from_is_err_and c.from_residual-in_err-ticket.result c.from_residual-in_err-ticket.ensures.1 in
    rw (p.1, p.2) (no_ticket c.in_err-ticket.field-0.0 (((c.in_ok-check_random.ensures.right, (c.in_ok-bindings.bindings, c.in_ok-bindings.ensures.found)), (c.in_ok-suite.suite, c.in_ok-suite.ensures)), (c.in_ok-client.client.realm, c.in_ok-client.client.name, c.in_ok-client.ensures.found)) c.in_err-ticket.ensures.refused refl)

pub returns-clause-made : goal.returns-clause-made
returns-clause-made c =
    ok_map c.requested.result (λ octets is. record {
      realm = c.in_ok-client.client.realm;
      name = c.in_ok-client.client.name;
      ticket = c.in_ok-ticket.ticket;
      suite = c.in_ok-suite.suite;
      bindings = c.in_ok-bindings.bindings;
      are_parts = record {
        sixteen = c.in_ok-check_random.ensures.right;
        are_bindings = c.in_ok-bindings.ensures.found;
        suite_is = c.in_ok-suite.ensures;
        is_client = c.in_ok-client.ensures.found;
        ticket_is = c.in_ok-ticket.ensures.found;
      };
      is_request = is;
    }) c.requested.ensures.made

pub returns-clause-refused : goal.returns-clause-refused
returns-clause-refused c =
    err_map c.requested.result (λ r is. no_request c.in_ok-client.client.realm c.in_ok-client.client.name c.in_ok-ticket.ticket c.in_ok-suite.suite
    c.in_ok-bindings.bindings (record {
      sixteen = c.in_ok-check_random.ensures.right;
      are_bindings = c.in_ok-bindings.ensures.found;
      suite_is = c.in_ok-suite.ensures;
      is_client = c.in_ok-client.ensures.found;
      ticket_is = c.in_ok-ticket.ensures.found;
    }) is) c.requested.ensures.refused
