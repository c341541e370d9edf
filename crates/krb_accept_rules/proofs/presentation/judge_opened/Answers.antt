use Rattle.std.proofs.Common.{inr}
use Rattle.std.proofs.lemmas.Result.{err_from_is_err_and}
use Rattle.krb_accept_rules.specs.Presenting.{session_breaks}
use Rattle.krb_accept_rules.proofs.Steps.{not_an_authenticator, not_kept}
use Rattle.krb_accept_rules.proofs.presentation.judge_opened.Goals as goal

pub returns-in_err-_session-clause-rejected : goal.returns-in_err-_session-clause-rejected
returns-in_err-_session-clause-rejected g c =
    let p = err_from_is_err_and c.from_residual.result c.from_residual.ensures.1 in
    rw (p.1, p.2) (inr (session_breaks c.in_err-_session.ensures.broken))

pub returns-in_err-authenticator-clause-rejected : goal.returns-in_err-authenticator-clause-rejected
returns-in_err-authenticator-clause-rejected g c =
    let p = err_from_is_err_and c.from_residual-in_err-authenticator.result c.from_residual-in_err-authenticator.ensures.1 in
    rw (p.1, p.2) (not_an_authenticator g.O.Opening c.args.terms.now c.args.arrival.now c.args.opened.now.request c.args.opened.now.ticket _
    c.in_ok-_session.ensures.kept c.in_err-authenticator.ensures.rejected)

pub returns-in-Err-clause-rejected : goal.returns-in-Err-clause-rejected
returns-in-Err-clause-rejected g c =
    not_kept g.O.Opening c.args.terms.now c.args.arrival.now c.args.opened.now.request c.args.opened.now.ticket _
    c.in_ok-authenticator.authenticator c.in_ok-_session.ensures.kept c.in_ok-authenticator.ensures.found c.in-Err.ensures.broken
