use Rattle.std.proofs.Common.{◌≢◌, All, subst, arith}
use Rattle.krb_build.specs.Mechanisms.{arcs}
use Rattle.krb_build.specs.declared.mechanisms.Mechanism.{Mechanism}
use Rattle.krb_build.proofs.Known.{every_mechanism}
use Rattle.krb_build.proofs.mechanisms.Mechanism.of.Goals as goal

pub returns-clause-none : goal.returns-clause-none
returns-clause-none c =
    let IsOther : Mechanism → Type 0 = λ mechanism. c.args.identifier.now ≢ arcs mechanism in
    let each : All IsOther c.every-mechanism-items.result.now = λ k d lt. c.loop-mechanism.invariant k d (omega (arith, lt, c.loop-mechanism-test.false)) in
    every_mechanism IsOther (subst (All IsOther) c.every-mechanism-items.ensures each)
