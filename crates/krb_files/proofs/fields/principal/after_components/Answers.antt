use Rattle.std.proofs.lemmas.Result.{err_from_is_err_and}
use Rattle.krb_files.specs.Lists.{read-none, read-more, read-error, read-all}
use Rattle.krb_files.specs.FieldReading.{counted_at, size_of}
use Rattle.krb_files.proofs.fields.principal.after_components.Goals as goal

pub components-init : goal.components-init
components-init c = read-none (counted_at (size_of c.args.size)) c.args.count c.args.octets.now

pub components-preserved : goal.components-preserved
components-preserved c =
    read-more (counted_at (size_of c.args.size)) c.args.count c.args.octets.now c.components.counter c.components.rest.now c.in_ok-after.field-0-0.now c.in_ok-after.after.now c.components-test.true c.in_ok-after.ensures c.components.invariant

pub returns-in_err-after : goal.returns-in_err-after
returns-in_err-after c =
    let p = err_from_is_err_and c.from_residual.result c.from_residual.ensures.1 in
    rw (p.1, p.2) (read-error (counted_at (size_of c.args.size)) c.args.count c.args.octets.now c.components.counter c.components.rest.now c.in_err-after.field-0.0 c.components-test.true c.in_err-after.ensures c.components.invariant)

pub returns : goal.returns
returns c = read-all (counted_at (size_of c.args.size)) c.args.count c.args.octets.now c.components.counter c.components.rest.now c.components-test.false c.components.invariant
