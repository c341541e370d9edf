use Rattle.std.proofs.lemmas.Result.{err_from_is_err_and}
use Rattle.krb_accept.specs.Tokens.{at_context, no_request}
use Rattle.krb_accept.proofs.Steps.{request_refused, token_found, token_refused}
use Rattle.krb_accept.proofs.token.present_token.Goals as goal

pub returns-in_err-octets-clause-refused : goal.returns-in_err-octets-clause-refused
returns-in_err-octets-clause-refused c =
    let p = err_from_is_err_and c.from_residual.result c.from_residual.ensures.1 in
    rw (p.1, p.2) (no_request c.in_err-octets.ensures.refused)

pub returns-in_err-presented-clause-refused : goal.returns-in_err-presented-clause-refused
returns-in_err-presented-clause-refused c =
    let p = err_from_is_err_and c.from_residual-in_err-presented.result c.from_residual-in_err-presented.ensures.1 in
    rw (p.1, p.2) (request_refused _ _ _ _ c.args.keys.now c.args.session_keys.now c.args.terms.now c.args.arrival.now c.args.settings.now c.args.token.now
    c.in_ok-octets.octets.now _ c.in_ok-octets.ensures.found c.in_err-presented.ensures.rejected)

pub returns-in-Err-clause-refused : goal.returns-in-Err-clause-refused
returns-in-Err-clause-refused c =
    let presented = c.in_ok-presented.presented in
    at_context c.in_ok-octets.octets.now c.in_ok-octets.ensures.found presented.key.now presented.entry presented.accepted
    c.in_ok-presented.ensures.found c.in-Err.ensures.refused

pub returns-in-Ok-clause-found : goal.returns-in-Ok-clause-found
returns-in-Ok-clause-found c =
    token_found _ _ _ _ c.args.keys.now c.args.session_keys.now c.args.terms.now c.args.arrival.now c.args.settings.now c.args.token.now c.in_ok-octets.octets.now
    c.in_ok-presented.presented c.in-Ok.told c.with_told.result c.in_ok-octets.ensures.found c.in_ok-presented.ensures.found c.in-Ok.ensures.pac c.in-Ok.ensures.told
    c.with_told.ensures.entry c.with_told.ensures.accepted c.with_told.ensures.key c.with_told.ensures.told

pub returns-in-Ok-clause-refused : goal.returns-in-Ok-clause-refused
returns-in-Ok-clause-refused c =
    token_refused _ _ _ _ c.args.keys.now c.args.session_keys.now c.args.terms.now c.args.arrival.now c.args.settings.now c.args.token.now c.with_told.result
    c.with_told.ensures.refused
