use Rattle.std.proofs.lemmas.Result.{err_from_is_err_and}
use Rattle.krb_file_tools.specs.Back.{no_info}
use Rattle.krb_file_tools.proofs.Backs.{ticket_broken}
use Rattle.krb_file_tools.proofs.Refusals.{or_memory}
use Rattle.krb_file_tools.proofs.convert.ccache.entry_of.Goals as goal

pub returns-in_err-info-clause-rejected : goal.returns-in_err-info-clause-rejected
returns-in_err-info-clause-rejected g c =
    let p = err_from_is_err_and c.from_residual.result c.from_residual.ensures.1 in
    rw (p.1, p.2) (or_memory c.in_err-info.field-0.0 (no_info c.in_err-info.field-0.0) c.in_err-info.ensures.rejected)

pub returns-in-Err-clause-rejected : goal.returns-in-Err-clause-rejected
returns-in-Err-clause-rejected g c =
    ticket_broken g.T.DerEncode c.args.credential.now c.in_ok-info.info c.ticket.result.now c.in-Err.error c.ticket.ensures c.in_ok-info.ensures.found c.in-Err.ensures.rejected
