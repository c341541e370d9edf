use Rattle.std.proofs.lemmas.Result.{err_from_is_err_and}
use Rattle.krb_accept.specs.Pac.{broken}
use Rattle.krb_accept.proofs.pac.pac_of_ticket.Goals as goal

pub returns-in_err-verified-in-Once-clause-refused : goal.returns-in_err-verified-in-Once-clause-refused
returns-in_err-verified-in-Once-clause-refused c =
    let p = err_from_is_err_and c.from_residual-in_err-verified-in-Once.result c.from_residual-in_err-verified-in-Once.ensures.1 in
    let h = rw c.in-Once.is at c.in_ok-octets.ensures in
    rw (p.1, p.2) (broken c.requires.checks c.requires.none c.in-Once.octets.items h.0 c.in_err-verified-in-Once.ensures.refused)
