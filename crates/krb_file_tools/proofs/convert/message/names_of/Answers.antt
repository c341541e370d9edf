use Rattle.std.proofs.lemmas.Result.{err_from_is_err_and}
use Rattle.krb_file_tools.proofs.Infos.{both_named, client_broken, server_broken}
use Rattle.krb_file_tools.proofs.convert.message.names_of.Goals as goal

pub returns-in_err-client : goal.returns-in_err-client
returns-in_err-client c =
    let p = err_from_is_err_and c.from_residual.result c.from_residual.ensures.1 in
    rw (p.1, p.2) (client_broken c.args.credential.now c.client.result.now c.in_err-client.field-0.0 c.client.ensures c.in_err-client.ensures)

pub returns-in-Ok : goal.returns-in-Ok
returns-in-Ok c =
    both_named c.args.credential.now c.client.result.now c.server.result.now c.in_ok-client.client c.in-Ok.server c.client.ensures c.server.ensures c.in_ok-client.ensures c.in-Ok.ensures

pub returns-in-Err : goal.returns-in-Err
returns-in-Err c =
    server_broken c.args.credential.now c.client.result.now c.server.result.now c.in_ok-client.client c.in-Err.error c.client.ensures c.server.ensures c.in_ok-client.ensures c.in-Err.ensures
