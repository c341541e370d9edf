use Rattle.std.proofs.Common.{arith}
use Rattle.std.proofs.lemmas.Result.{err_from_is_err_and}
use Rattle.krb_files.specs.Alls.{reads-none}
use Rattle.krb_files.specs.FieldReading.{is_nil, typed_at}
use Rattle.krb_files.specs.FieldWritten.{typed_octets, FitsTyped}
use Rattle.krb_files.proofs.Credentials.{fields}
use Rattle.krb_files.proofs.CcacheSteps.{less_left, more_read, error_read, all_read}
use Rattle.krb_files.proofs.ccache.view.check_fields.Goals as goal

pub fields-init : goal.fields-init
fields-init c = (reads-none is_nil (typed_at 2) c.args.octets.now, λ i. omega (arith, c.type_inv.octets i))

pub fields-smaller : goal.fields-smaller
fields-smaller c = less_left (typed_at 2) (typed_octets 2) (FitsTyped 2) fields c.fields.rest.now c.in_ok-after.field-0-0 c.in_ok-after.after.now c.fields.invariant.1 c.in_ok-after.ensures

pub fields-preserved : goal.fields-preserved
fields-preserved c =
    more_read (typed_at 2) (typed_octets 2) (FitsTyped 2) fields c.args.octets.now c.fields.rest.now c.in_ok-after.field-0-0 c.in_ok-after.after.now c.fields-test.ensures c.in_ok-after.ensures c.fields.invariant

pub returns-in_err-after : goal.returns-in_err-after
returns-in_err-after c =
    let p = err_from_is_err_and c.from_residual.result c.from_residual.ensures.1 in
    rw (p.1, p.2) (error_read (typed_at 2) c.args.octets.now c.fields.rest.now c.in_err-after.field-0.0 c.fields-test.ensures c.in_err-after.ensures c.fields.invariant.0)

pub returns : goal.returns
returns c = all_read (typed_at 2) c.args.octets.now c.fields.rest.now c.fields-test.ensures c.fields.invariant.0
