use Rattle.std.proofs.lemmas.Result.{err_from_is_err_and}
use Rattle.krb_accept_rules.proofs.Steps.{not_a_ticket, not_judged}
use Rattle.krb_accept_rules.proofs.presentation.present.Goals as goal

pub returns-in_err-opened-clause-rejected : goal.returns-in_err-opened-clause-rejected
returns-in_err-opened-clause-rejected g c =
    let p = err_from_is_err_and c.from_residual.result c.from_residual.ensures.1 in
    rw (p.1, p.2) (not_a_ticket g.O.Opening c.args.keys.now c.args.session_keys.now c.args.terms.now c.args.arrival.now c.args.octets.now _ c.in_err-opened.ensures.rejected)

pub returns-in-Err-clause-rejected : goal.returns-in-Err-clause-rejected
returns-in-Err-clause-rejected g c =
    not_judged g.O.Opening c.args.keys.now c.args.session_keys.now c.args.terms.now c.args.arrival.now c.args.octets.now _
    c.in_ok-opened.opened.request c.in_ok-opened.opened.key.now c.in_ok-opened.opened.ticket c.in_ok-opened.ensures.found c.in-Err.ensures.rejected
