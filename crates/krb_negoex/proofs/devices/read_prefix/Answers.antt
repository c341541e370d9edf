use Rattle.std.proofs.lemmas.Result.{err_from_is_err_and}
use Rattle.krb_negoex.proofs.Calls.{gather_rejected}
use Rattle.krb_negoex.proofs.devices.read_prefix.Goals as goal

pub returns-in_err-read_up_to-clause-rejected : goal.returns-in_err-read_up_to-clause-rejected
returns-in_err-read_up_to-clause-rejected g c =
    let p = err_from_is_err_and c.from_residual.result c.from_residual.ensures.1 in
    rw p.1 (gather_rejected _ _ _ c.in_err-read_up_to.field-0.0 p.0 p.2 c.in_err-read_up_to.ensures.rejected)
