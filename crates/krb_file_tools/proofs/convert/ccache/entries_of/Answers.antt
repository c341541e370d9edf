use Rattle.std.proofs.lemmas.Result.{err_from_is_err_and}
use Rattle.krb_file_tools.proofs.Entries.{entries_more, first_broken}
use Rattle.krb_file_tools.proofs.Refusals.{or_memory}
use Rattle.krb_file_tools.proofs.convert.ccache.entries_of.Goals as goal

pub returns-in_err-ticket-clause-rejected : goal.returns-in_err-ticket-clause-rejected
returns-in_err-ticket-clause-rejected g c =
    let p = err_from_is_err_and c.from_residual.result c.from_residual.ensures.1 in
    rw (p.1, p.2)
    (or_memory c.in_err-ticket.field-0.0
    (first_broken g.T.DerEncode c.args.credentials.now c.loop-credential.credential-index c.loop-credential.tickets.items c.loop-credential.infos.items c.credential-item.result
    c.in_err-ticket.field-0.0 c.loop-credential-test.true c.credential-item.is c.loop-credential.invariant)
    c.in_err-ticket.ensures.rejected)

pub loop-credential-preserved : goal.loop-credential-preserved
loop-credential-preserved g c =
    rw (c.in_ok-append.ensures, c.in_ok-append-2.ensures)
    (entries_more g.T.DerEncode c.args.credentials.now c.loop-credential.credential-index c.loop-credential.tickets.items c.loop-credential.infos.items c.credential-item.result
    c.in_ok-ticket.ticket c.in_ok-ticket.info c.loop-credential-test.true c.credential-item.is c.loop-credential.invariant c.in_ok-ticket.ensures.found)
