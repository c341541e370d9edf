use Rattle.std.proofs.Common.{arith}
use Rattle.krb_files.specs.CcacheReading.{credential_at}
use Rattle.krb_files.specs.Ccache.{credential_octets, FitsCredential}
use Rattle.krb_files.proofs.Credentials.{credentials}
use Rattle.krb_files.proofs.CcacheSteps.{first_shown, none_shown, error_shown}
use Rattle.krb_files.proofs.ccache.view.first_credential.Goals as goal

pub returns-then-is_empty : goal.returns-then-is_empty
returns-then-is_empty c = none_shown (credential_at c.args.version) c.args.octets.now c.if-is_empty.ensures

pub returns-in-Ok : goal.returns-in-Ok
returns-in-Ok c =
    first_shown (credential_at c.args.version) (credential_octets c.args.version) FitsCredential (credentials c.args.version) c.args.octets.now c.in-Ok.credential c.in-Ok.after.now (λ i. omega (arith, c.type_inv.octets i)) c.if-is_empty.ensures c.in-Ok.ensures

pub returns-in-Err : goal.returns-in-Err
returns-in-Err c = error_shown (credential_at c.args.version) c.args.octets.now c.in-Err.field-0 c.if-is_empty.ensures c.in-Err.ensures
