use Rattle.std.proofs.Common.{◌≡◌, ◌-◌, ◌<◌, [], ◌∷◌, length, drop, Ok, sym, ap, ◌∙◌, arith}
use Rattle.krb_pac_contents.specs.Elements.{sids_of}
use Rattle.krb_pac_contents.specs.Numbers.{long_at}
use Rattle.krb_pac_contents.specs.Sid.{sid_of}
use Rattle.krb_pac_contents.specs.Steps.{Read}
use Rattle.krb_pac_contents.proofs.FirstLeft.{sids-none, sids-refused, sids-more}
use Rattle.krb_pac_contents.proofs.elements.ExtraSidsIterator.next.Goals as goal

pub returns-then-self-eq0-clause-steps : goal.returns-then-self-eq0-clause-steps
returns-then-self-eq0-clause-steps c =
    let none : c.args.self.now ≡ [] = sym c.self.view_is ∙ sids-none c.self.inside.left c.self.inside.elements.now c.self.inside.sids.now c.if-self-eq0.true in
    (none, none)

pub returns-in_default-clause-steps : goal.returns-in_default-clause-steps
returns-in_default-clause-steps c =
    let none : c.args.self.now ≡ [] = sym c.self.view_is ∙ sids-refused c.self.inside.left c.self.inside.elements.now c.self.inside.sids.now c.in_default.field-0 (sym c.sid.ensures ∙ c.in_default.is) in
    (none, none)

pub returns-clause-steps : goal.returns-clause-steps
returns-clause-steps c =
    let some : 0 < c.self.inside.left = omega arith in
    let s : Read = record { octets = c.read.inside.sid; rest = c.read.inside.rest.now } in
    let read : sid_of c.self.inside.sids.now ≡ Ok s = sym c.sid.ensures ∙ c.in-Ok.is ∙ ap (λ (r : Read). Ok r) (sym c.read.view_is) in
    rw (c.split_at.ensures.back, c.u32_at-attributes.ensures) (sym c.self.view_is ∙ sids-more c.self.inside.left c.self.inside.elements.now c.self.inside.sids.now s some read)

pub returns-clause-goes : goal.returns-clause-goes
returns-clause-goes c =
    let some : 0 < c.self.inside.left = omega arith in
    let s : Read = record { octets = c.read.inside.sid; rest = c.read.inside.rest.now } in
    let read : sid_of c.self.inside.sids.now ≡ Ok s = sym c.sid.ensures ∙ c.in-Ok.is ∙ ap (λ (r : Read). Ok r) (sym c.read.view_is) in
    let left : c.args.self.now ≡ record { sid = s.octets; attributes = long_at 4 c.self.inside.elements.now } ∷ sids_of (c.self.inside.left - 1) (drop 8 c.self.inside.elements.now) s.rest
    = sym c.self.view_is ∙ sids-more c.self.inside.left c.self.inside.elements.now c.self.inside.sids.now s some read in
    let long = ap length left in
    rw c.split_at.ensures.back (record { on = λ _. (tt, tt, omega (arith, long)); keeps = tt; rests = λ _. tt })
