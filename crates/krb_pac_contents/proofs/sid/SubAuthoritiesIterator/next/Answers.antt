use Rattle.std.proofs.Common.{◌≡◌, ◌-◌, ◌<◌, [], ◌∷◌, length, drop, sym, ap, ◌∙◌, arith}
use Rattle.krb_pac_contents.specs.Numbers.{long_at, elements_of}
use Rattle.krb_pac_contents.proofs.FirstLeft.{elements-none, elements-more}
use Rattle.krb_pac_contents.proofs.sid.SubAuthoritiesIterator.next.Goals as goal

pub returns-then-self-eq0-clause-steps : goal.returns-then-self-eq0-clause-steps
returns-then-self-eq0-clause-steps c =
    let none : c.args.self.now ≡ [] = sym c.self.view_is ∙ elements-none 4 (long_at 0) c.self.inside.left c.self.inside.octets.now c.if-self-eq0.true in
    (none, none)

pub returns-clause-steps : goal.returns-clause-steps
returns-clause-steps c =
    let some : 0 < c.self.inside.left = omega arith in
    rw (c.split_at.ensures.back, c.u32_at-number.ensures) (sym c.self.view_is ∙ elements-more 4 (long_at 0) c.self.inside.left c.self.inside.octets.now some)

pub returns-clause-goes : goal.returns-clause-goes
returns-clause-goes c =
    let some : 0 < c.self.inside.left = omega arith in
    let left : c.args.self.now ≡ (long_at 0) c.self.inside.octets.now ∷ elements_of 4 (long_at 0) (c.self.inside.left - 1) (drop 4 c.self.inside.octets.now)
    = sym c.self.view_is ∙ elements-more 4 (long_at 0) c.self.inside.left c.self.inside.octets.now some in
    let long = ap length left in
    rw c.split_at.ensures.back (record { on = λ _. (tt, tt, omega (arith, long)); keeps = tt; rests = λ _. tt })
