use Rattle.std.proofs.lemmas.Result.{err_from_is_err_and}
use Rattle.krb_accept_rules.proofs.Steps.{not_admitted, not_presented}
use Rattle.krb_accept_rules.proofs.decision.accept.Goals as goal

pub returns-in_err-presented-clause-refused : goal.returns-in_err-presented-clause-refused
returns-in_err-presented-clause-refused g c =
    let p = err_from_is_err_and c.from_residual.result c.from_residual.ensures.1 in
    rw (p.1, p.2) (not_presented g.O.Opening c.args.keys.now c.args.session_keys.now c.args.terms.now c.args.arrival.now c.args.octets.now _ c.args.cache.now
    c.in_err-presented.ensures.rejected)

pub returns-in_err-accepted-clause-refused : goal.returns-in_err-accepted-clause-refused
returns-in_err-accepted-clause-refused g c =
    let p = err_from_is_err_and c.from_residual-in_err-accepted.result c.from_residual-in_err-accepted.ensures.1 in
    rw (p.1, p.2) (not_admitted g.O.Opening c.args.keys.now c.args.session_keys.now c.args.terms.now c.args.arrival.now c.args.octets.now _ c.args.cache.now
    c.in_ok-presented.presented.key.now c.in_ok-presented.presented.entry c.in_ok-presented.presented.accepted c.in_ok-presented.ensures.found
    c.in_err-accepted.ensures.refused)
