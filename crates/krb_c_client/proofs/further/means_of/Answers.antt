use Rattle.std.proofs.Common.{inl, rules}
use Rattle.std.proofs.lemmas.Result.{err_from_is_err_and}
use Rattle.krb_c_client.specs.Means.{no_suite}
use Rattle.krb_c_client.proofs.further.means_of.Goals as goal

pub returns-in_err-suite-clause-refused : goal.returns-in_err-suite-clause-refused
returns-in_err-suite-clause-refused c =
    let p = err_from_is_err_and c.from_residual-in_err-suite.result c.from_residual-in_err-suite.ensures.1 in
    rw (p.1, p.2) (no_suite c.in_ok-ticket.ticket c.in_ok-ticket.ensures.found (search rules))

pub returns-in_err-of_subkey-clause-refused : goal.returns-in_err-of_subkey-clause-refused
returns-in_err-of_subkey-clause-refused c =
    let p = err_from_is_err_and c.from_residual-in_err-of_subkey.result c.from_residual-in_err-of_subkey.ensures.1 in
    rw (p.1, p.2) (no_suite c.in_ok-ticket.ticket c.in_ok-ticket.ensures.found (search rules))

pub returns-in_err-octets-clause-refused : goal.returns-in_err-octets-clause-refused
returns-in_err-octets-clause-refused c =
    let p = err_from_is_err_and c.from_residual-in_err-octets.result c.from_residual-in_err-octets.ensures.1 in
    rw p.1 (no_suite c.in_ok-ticket.ticket c.in_ok-ticket.ensures.found (inl p.2))
