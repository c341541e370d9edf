use Rattle.std.proofs.Common.{inr}
use Rattle.std.proofs.lemmas.Result.{err_from_is_err_and}
use Rattle.krb_accept_rules.specs.AuthenticatorRules.{AuthenticatorRule, ShowsTime, octets_order, value_order}
use Rattle.krb_accept_rules.proofs.FirstFaults.{or_memory_in_second, refuses_in_first}
use Rattle.krb_accept_rules.proofs.authenticator.check_authenticator.Goals as goal

pub returns-in_err-microseconds-clause-broken : goal.returns-in_err-microseconds-clause-broken
returns-in_err-microseconds-clause-broken g c =
    let p = err_from_is_err_and c.from_residual.result c.from_residual.ensures.1 in
    rw (p.1, p.2) (inr (refuses_in_first (AuthenticatorRule g.O.Opening c.args.terms.now c.args.arrival.now c.args.ticket.now c.args.authenticator.now)
    (ShowsTime c.args.ticket.now c.args.authenticator.now) value_order octets_order _ c.in_err-microseconds.ensures.broken))

pub returns-in_err-_form-clause-broken : goal.returns-in_err-_form-clause-broken
returns-in_err-_form-clause-broken g c =
    let p = err_from_is_err_and c.from_residual-in_err-_form.result c.from_residual-in_err-_form.ensures.1 in
    rw (p.1, p.2) (or_memory_in_second (AuthenticatorRule g.O.Opening c.args.terms.now c.args.arrival.now c.args.ticket.now c.args.authenticator.now)
    (ShowsTime c.args.ticket.now c.args.authenticator.now) value_order octets_order _
    c.in_ok-microseconds.ensures.kept c.in_err-_form.ensures.broken)
