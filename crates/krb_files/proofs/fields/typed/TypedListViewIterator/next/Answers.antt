use Rattle.std.proofs.Common.{length, sym, ap, ◌∙◌, arith}
use Rattle.krb_files.specs.Lists.{shown-none, shown-first, shown-error}
use Rattle.krb_files.specs.FieldReading.{typed_at}
use Rattle.krb_files.proofs.fields.typed.TypedListViewIterator.next.Goals as goal

pub returns-then-self-eq0-clause-steps : goal.returns-then-self-eq0-clause-steps
returns-then-self-eq0-clause-steps c =
    let none = sym c.self.view_is ∙ shown-none (typed_at 4) c.self.inside.count c.self.inside.octets.now c.if-self-eq0.true in
    (none, none)

pub returns-in-Ok-clause-steps : goal.returns-in-Ok-clause-steps
returns-in-Ok-clause-steps c =
    sym c.self.view_is ∙ shown-first (typed_at 4) c.self.inside.count c.self.inside.octets.now c.in-Ok.typed c.in-Ok.rest.now (omega (arith, c.if-self-eq0.false)) c.in-Ok.ensures

pub returns-in-Ok-clause-goes : goal.returns-in-Ok-clause-goes
returns-in-Ok-clause-goes c =
    let left = sym c.self.view_is ∙ shown-first (typed_at 4) c.self.inside.count c.self.inside.octets.now c.in-Ok.typed c.in-Ok.rest.now (omega (arith, c.if-self-eq0.false)) c.in-Ok.ensures in
    let long = ap length left in
    record { on = λ _. (tt, tt, omega (arith, long)); keeps = tt; rests = λ _. tt }

pub returns-in-Err-clause-steps : goal.returns-in-Err-clause-steps
returns-in-Err-clause-steps c =
    let none = sym c.self.view_is ∙ shown-error (typed_at 4) c.self.inside.count c.self.inside.octets.now c.in-Err.field-0 c.in-Err.ensures in
    (none, none)
