use Rattle.std.proofs.Common.{inr, refl}
use Rattle.std.proofs.lemmas.Result.{err_from_is_err_and}
use Rattle.krb_gss_tokens.proofs.Proxies.{header_found, header_reported}
use Rattle.krb_gss_tokens.proofs.iakerb.read_header.Goals as goal

pub returns-in_err-header-clause-rejected : goal.returns-in_err-header-clause-rejected
returns-in_err-header-clause-rejected c =
    let p = err_from_is_err_and c.from_residual-in_err-header.result c.from_residual-in_err-header.ensures.1 in
    let reported = header_reported _ c.in_ok-content.content.now c.args.octets.now c.in_ok-content.taken c.in_err-header.field-0.0 c.in_ok-content.ensures.found c.in_err-header.ensures.no_device c.in_err-header.ensures.reads c.in_err-header.ensures.first_error in
    rw (p.1, p.2) (c.in_err-header.field-0.0, refl, inr reported)

pub returns-clause-found : goal.returns-clause-found
returns-clause-found c = header_found c.in_ok-content.content.now c.args.octets.now c.in_ok-content.taken c.in_ok-header.header c.in_ok-content.ensures.found c.in_ok-header.ensures.found
