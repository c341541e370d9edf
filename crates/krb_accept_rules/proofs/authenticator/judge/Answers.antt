use Rattle.std.proofs.lemmas.Result.{err_from_is_err_and}
use Rattle.krb_accept_rules.specs.AuthenticatorRules.{AuthenticatorRule, ShowsTime, client_order, parts_order, time_order, trust_order}
use Rattle.krb_accept_rules.proofs.FirstFaults.{last_refuses, third_refuses}
use Rattle.krb_accept_rules.proofs.authenticator.judge.Goals as goal

pub returns-in_err-_times-clause-broken : goal.returns-in_err-_times-clause-broken
returns-in_err-_times-clause-broken g c =
    let p = err_from_is_err_and c.from_residual-in_err-_times.result c.from_residual-in_err-_times.ensures.1 in
    rw (p.1, p.2) (third_refuses (AuthenticatorRule g.O.Opening c.args.terms.now c.args.arrival.now c.args.ticket.now c.args.authenticator.now)
    (ShowsTime c.args.ticket.now c.args.authenticator.now) parts_order client_order time_order trust_order _
    c.in_ok-microseconds.ensures.kept c.in_ok-_client.ensures.kept c.in_err-_times.ensures.broken)

pub returns-in_err-_trust-clause-broken : goal.returns-in_err-_trust-clause-broken
returns-in_err-_trust-clause-broken g c =
    let p = err_from_is_err_and c.from_residual-in_err-_trust.result c.from_residual-in_err-_trust.ensures.1 in
    rw (p.1, p.2) (last_refuses (AuthenticatorRule g.O.Opening c.args.terms.now c.args.arrival.now c.args.ticket.now c.args.authenticator.now)
    (ShowsTime c.args.ticket.now c.args.authenticator.now) parts_order client_order time_order trust_order _
    c.in_ok-microseconds.ensures.kept c.in_ok-_client.ensures.kept c.in_ok-_times.ensures.kept c.in_err-_trust.ensures.broken)
