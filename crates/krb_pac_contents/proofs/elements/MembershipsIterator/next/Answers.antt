use Rattle.std.proofs.Common.{◌≡◌, ◌-◌, ◌<◌, [], ◌∷◌, length, drop, sym, ap, ◌∙◌, arith}
use Rattle.krb_pac_contents.specs.Elements.{membership}
use Rattle.krb_pac_contents.specs.Numbers.{elements_of}
use Rattle.krb_pac_contents.proofs.FirstLeft.{elements-none, elements-more}
use Rattle.krb_pac_contents.proofs.elements.MembershipsIterator.next.Goals as goal

pub returns-then-self-eq0-clause-steps : goal.returns-then-self-eq0-clause-steps
returns-then-self-eq0-clause-steps c =
    let none : c.args.self.now ≡ [] = sym c.self.view_is ∙ elements-none 8 membership c.self.inside.left c.self.inside.octets.now c.if-self-eq0.true in
    (none, none)

pub returns-clause-steps : goal.returns-clause-steps
returns-clause-steps c =
    let some : 0 < c.self.inside.left = omega arith in
    rw (c.split_at.ensures.back, c.u32_at.ensures, c.u32_at-2.ensures) (sym c.self.view_is ∙ elements-more 8 membership c.self.inside.left c.self.inside.octets.now some)

pub returns-clause-goes : goal.returns-clause-goes
returns-clause-goes c =
    let some : 0 < c.self.inside.left = omega arith in
    let left : c.args.self.now ≡ membership c.self.inside.octets.now ∷ elements_of 8 membership (c.self.inside.left - 1) (drop 8 c.self.inside.octets.now)
    = sym c.self.view_is ∙ elements-more 8 membership c.self.inside.left c.self.inside.octets.now some in
    let long = ap length left in
    rw c.split_at.ensures.back (record { on = λ _. (tt, tt, omega (arith, long)); keeps = tt; rests = λ _. tt })
