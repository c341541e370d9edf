use Rattle.std.proofs.Common.{sym, ◌∙◌, arith}
use Rattle.krb_kdc_proxy.proofs.Letters.{are_same, same_at, same_next}
use Rattle.krb_kdc_proxy.proofs.request.is_same.Goals as goal

pub loop-i-init : goal.loop-i-init
loop-i-init c = λ j below. absurd (omega (arith, below))

pub loop-i-preserved : goal.loop-i-preserved
loop-i-preserved c =
    same_next c.args.first.now c.args.second.now c.loop-i.i c.loop-i.invariant
    (sym c.to_ascii_lowercase.ensures.value ∙ c.if-to_ascii_lowercase.false ∙ c.to_ascii_lowercase-in-loop-i.ensures.value)

pub returns-then-to_ascii_lowercase : goal.returns-then-to_ascii_lowercase
returns-then-to_ascii_lowercase c = λ e.
    c.if-to_ascii_lowercase.true (c.to_ascii_lowercase.ensures.value
    ∙ same_at c.args.first.now c.args.second.now c.loop-i.i c.if-first-second.false c.loop-i-test.true e ∙ sym c.to_ascii_lowercase-in-loop-i.ensures.value)

pub returns : goal.returns
returns c = are_same c.args.first.now c.args.second.now c.if-first-second.false (λ j inside. c.loop-i.invariant j (omega (arith, inside, c.loop-i-test.false)))
