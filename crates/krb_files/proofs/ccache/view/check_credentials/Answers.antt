use Rattle.std.proofs.Common.{arith}
use Rattle.std.proofs.lemmas.Result.{err_from_is_err_and}
use Rattle.krb_files.specs.Alls.{reads-none}
use Rattle.krb_files.specs.FieldReading.{is_nil}
use Rattle.krb_files.specs.CcacheReading.{credential_at}
use Rattle.krb_files.specs.Ccache.{credential_octets, FitsCredential}
use Rattle.krb_files.proofs.Credentials.{credentials}
use Rattle.krb_files.proofs.CcacheSteps.{less_left, more_read, error_read, all_read}
use Rattle.krb_files.proofs.ccache.view.check_credentials.Goals as goal

pub credentials-init : goal.credentials-init
credentials-init c = (reads-none is_nil (credential_at c.args.version) c.args.octets.now, λ i. omega (arith, c.type_inv.octets i))

pub credentials-smaller : goal.credentials-smaller
credentials-smaller c = less_left (credential_at c.args.version) (credential_octets c.args.version) FitsCredential (credentials c.args.version) c.credentials.rest.now c.in_ok-after.field-0-0 c.in_ok-after.after.now c.credentials.invariant.1 c.in_ok-after.ensures

pub credentials-preserved : goal.credentials-preserved
credentials-preserved c =
    more_read (credential_at c.args.version) (credential_octets c.args.version) FitsCredential (credentials c.args.version) c.args.octets.now c.credentials.rest.now c.in_ok-after.field-0-0 c.in_ok-after.after.now c.credentials-test.ensures c.in_ok-after.ensures c.credentials.invariant

pub returns-in_err-after : goal.returns-in_err-after
returns-in_err-after c =
    let p = err_from_is_err_and c.from_residual.result c.from_residual.ensures.1 in
    rw (p.1, p.2) (error_read (credential_at c.args.version) c.args.octets.now c.credentials.rest.now c.in_err-after.field-0.0 c.credentials-test.ensures c.in_err-after.ensures c.credentials.invariant.0)

pub returns : goal.returns
returns c = all_read (credential_at c.args.version) c.args.octets.now c.credentials.rest.now c.credentials-test.ensures c.credentials.invariant.0
