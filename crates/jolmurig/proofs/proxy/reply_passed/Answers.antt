use Rattle.std.proofs.lemmas.Result.{err_from_is_err_and}
use Rattle.jolmurig.proofs.proxy.reply_passed.Goals as goal

pub returns-in_err-octets-clause-rejected : goal.returns-in_err-octets-clause-rejected
returns-in_err-octets-clause-rejected c =
    let p = err_from_is_err_and c.from_residual.result c.from_residual.ensures.1 in
    rw (p.1, p.2) c.in_err-octets.ensures.rejected
