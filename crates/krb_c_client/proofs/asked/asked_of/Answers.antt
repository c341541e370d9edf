use Rattle.std.proofs.lemmas.Result.{err_from_is_err_and}
use Rattle.krb_c_client.specs.Asked.{no_client, no_server, no_suites}
use Rattle.krb_c_client.proofs.asked.asked_of.Goals as goal

pub returns-in_err-client-clause-refused : goal.returns-in_err-client-clause-refused
returns-in_err-client-clause-refused c =
    let p = err_from_is_err_and c.from_residual.result c.from_residual.ensures.1 in rw (p.1, p.2) (no_client c.in_err-client.ensures.refused)

pub returns-in_err-server-clause-refused : goal.returns-in_err-server-clause-refused
returns-in_err-server-clause-refused c =
    let p = err_from_is_err_and c.from_residual-in_err-server.result c.from_residual-in_err-server.ensures.1 in
    rw (p.1, p.2) (no_server (c.in_ok-client.client.realm, c.in_ok-client.client.name, c.in_ok-client.ensures.found) c.in_err-server.ensures.refused)

pub returns-in_err-etypes-clause-refused : goal.returns-in_err-etypes-clause-refused
returns-in_err-etypes-clause-refused c =
    let p = err_from_is_err_and c.from_residual-in_err-etypes.result c.from_residual-in_err-etypes.ensures.1 in
    rw (p.1, p.2)
    (no_suites (c.in_ok-client.client.realm, c.in_ok-client.client.name, c.in_ok-client.ensures.found)
    (c.in_ok-server.server.realm, c.in_ok-server.server.name, c.in_ok-server.ensures.found) c.in_err-etypes.ensures.refused)
