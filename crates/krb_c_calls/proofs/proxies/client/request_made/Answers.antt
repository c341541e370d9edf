use Rattle.krb_c_calls.proofs.RequestsMade.{request_refused}
use Rattle.krb_c_calls.proofs.proxies.client.request_made.Goals as goal

pub returns-in_err-write_request : goal.returns-in_err-write_request
returns-in_err-write_request c =
    let told = c.in_ok-realm.ensures in
    request_refused _ _ c.args.message.now c.args.domain.now c.in_ok-realm.realm c.from_residual-in_err-write_request.result (λ v. v.items)
    c.in_err-write_request.field-0.0 told.0 told.1 c.in_err-write_request.ensures.rejected c.from_residual-in_err-write_request.ensures.1
