use Rattle.std.proofs.Common.{refl}
use Rattle.krb_kdc_proxy.proofs.LenientLaws.{lenient_takes, same_lenient}
use Rattle.krb_kdc_proxy.proofs.laws.lenient_requests.Goals as goal

pub returns-clause-same : goal.returns-clause-same
returns-clause-same c = same_lenient _ (record { as_req = λ t. refl; tgs_req = λ t. refl }) _

pub returns-clause-read : goal.returns-clause-read
returns-clause-read c = lenient_takes _ (record { as_req = λ t. refl; tgs_req = λ t. refl }) _
