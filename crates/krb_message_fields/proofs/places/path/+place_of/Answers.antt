use Rattle.std.proofs.Common.{◌≡◌, ◌+◌, ◌-◌, List, ℕ, take, drop, sym, subst, arith}
use Rattle.krb_message_fields.specs.declared.places.place.Step.{Step}
use Rattle.krb_message_fields.specs.Paths.{IsPlace, LeadsNowhere}
use Rattle.krb_message_fields.proofs.Walks.{nowhere_within, within_step}
use Rattle.krb_message_fields.proofs.places.path.+place_of.Goals as goal

pub returns-in_err-inner : goal.returns-in_err-inner
returns-in_err-inner t c =
    let outer = c.in_ok-outer.outer in
    let octets = c.args.octets.now in
    let size : c.in_ok-outer.outer.offset + c.in_ok-outer.outer.size - c.in_ok-outer.outer.offset ≡ c.in_ok-outer.outer.size = omega arith in
    let none = subst (λ (n : ℕ). LeadsNowhere c.in-Some.rest.now (take n (drop outer.offset octets))) size c.in_err-inner.ensures in
    rw c.from_residual-in_err-inner.ensures
    (subst (λ (l : List Step). LeadsNowhere l octets) (sym c.in-Some.ensures.cases.0) (nowhere_within c.in-Some.step.now c.in-Some.rest.now octets outer c.in_ok-outer.ensures none))

pub returns : goal.returns
returns t c =
    let outer = c.in_ok-outer.outer in
    let inner = c.in_ok-inner.inner in
    let octets = c.args.octets.now in
    let size : c.in_ok-outer.outer.offset + c.in_ok-outer.outer.size - c.in_ok-outer.outer.offset ≡ c.in_ok-outer.outer.size = omega arith in
    let found = subst (λ (n : ℕ). IsPlace c.in-Some.rest.now (take n (drop outer.offset octets)) inner) size c.in_ok-inner.ensures in
    subst (λ (l : List Step). IsPlace l octets (record { offset = outer.offset + inner.offset; size = inner.size })) (sym c.in-Some.ensures.cases.0)
    (within_step c.in-Some.step.now c.in-Some.rest.now octets outer inner c.in_ok-outer.ensures found)
