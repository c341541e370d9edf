use Rattle.std.proofs.lemmas.Result.{err_from_is_err_and}
use Rattle.krb_files.specs.Lists.{read-none, read-more, read-error, read-all}
use Rattle.krb_files.specs.FieldReading.{typed_at}
use Rattle.krb_files.proofs.fields.typed.after_typed.Goals as goal

pub typed-init : goal.typed-init
typed-init c = read-none (typed_at 4) c.args.count c.args.octets.now

pub typed-preserved : goal.typed-preserved
typed-preserved c =
    read-more (typed_at 4) c.args.count c.args.octets.now c.typed.counter c.typed.rest.now c.in_ok-after.field-0-0 c.in_ok-after.after.now c.typed-test.true c.in_ok-after.ensures c.typed.invariant

pub returns-in_err-after : goal.returns-in_err-after
returns-in_err-after c =
    let p = err_from_is_err_and c.from_residual.result c.from_residual.ensures.1 in
    rw (p.1, p.2) (read-error (typed_at 4) c.args.count c.args.octets.now c.typed.counter c.typed.rest.now c.in_err-after.field-0.0 c.typed-test.true c.in_err-after.ensures c.typed.invariant)

pub returns : goal.returns
returns c = read-all (typed_at 4) c.args.count c.args.octets.now c.typed.counter c.typed.rest.now c.typed-test.false c.typed.invariant
