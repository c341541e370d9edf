use Rattle.std.proofs.Common.{refl}
use Rattle.krb_kdc_proxy.proofs.OneRequest.{request_or_none, same_request}
use Rattle.krb_kdc_proxy.proofs.laws.requests.Goals as goal

pub returns-clause-same : goal.returns-clause-same
returns-clause-same c = same_request _ (record { as_req = λ t. refl; tgs_req = λ t. refl }) _

pub returns-clause-read : goal.returns-clause-read
returns-clause-read c = request_or_none _ (record { as_req = λ t. refl; tgs_req = λ t. refl }) _
