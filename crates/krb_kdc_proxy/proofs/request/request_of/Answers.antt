use Rattle.std.proofs.lemmas.Result.{err_from_is_err_and}
use Rattle.krb_kdc_proxy.proofs.Requests.{nothing_asked}
use Rattle.krb_kdc_proxy.proofs.request.request_of.Goals as goal

pub returns-in_err-asked-clause-rejected : goal.returns-in_err-asked-clause-rejected
returns-in_err-asked-clause-rejected c =
    let p = err_from_is_err_and c.from_residual.result c.from_residual.ensures.1 in
    rw (p.1, p.2) (nothing_asked _ c.args.message c.args.datagram.now c.in-Some.domain _ c.in-Some.is c.in_err-asked.ensures.rejected)
