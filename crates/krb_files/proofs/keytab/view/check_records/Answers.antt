use Rattle.std.proofs.Common.{sym, arith}
use Rattle.std.proofs.lemmas.Result.{err_from_is_err_and}
use Rattle.krb_files.specs.Alls.{reads-none, reads-all}
use Rattle.krb_files.specs.KeytabReading.{is_end, record_at}
use Rattle.krb_files.proofs.KeytabSteps.{more_read, error_read, less_left, octets_left}
use Rattle.krb_files.proofs.keytab.view.check_records.Goals as goal

pub records-init : goal.records-init
records-init c = (reads-none is_end record_at c.args.octets.now, λ i. omega (arith, c.type_inv.octets i))

pub records-smaller : goal.records-smaller
records-smaller c = less_left c.records.rest.now c.in_ok-after.field-0-0 c.in_ok-after.after.now c.records.invariant.1 c.in_ok-after.ensures

pub records-preserved : goal.records-preserved
records-preserved c = (
  more_read c.args.octets.now c.records.rest.now c.in_ok-after.field-0-0 c.in_ok-after.after.now c.records.invariant.1 (sym c.records-test.ensures) c.in_ok-after.ensures c.records.invariant.0,
  octets_left c.records.rest.now c.in_ok-after.field-0-0 c.in_ok-after.after.now c.records.invariant.1 c.in_ok-after.ensures,
)

pub returns-in_err-after : goal.returns-in_err-after
returns-in_err-after c =
    let p = err_from_is_err_and c.from_residual.result c.from_residual.ensures.1 in
    rw (p.1, p.2) (error_read c.args.octets.now c.records.rest.now c.in_err-after.field-0.0 (sym c.records-test.ensures) c.in_err-after.ensures c.records.invariant.0)

pub returns : goal.returns
returns c = reads-all is_end record_at c.args.octets.now c.records.rest.now (sym c.records-test.ensures) c.records.invariant.0
