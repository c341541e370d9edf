use Rattle.std.proofs.Common.{inr, refl, subst, ⊎_elim, ℤ, Option, MatchOption}
use Rattle.krb_accept_report.specs.Texts.{IsTimeOf}
use Rattle.jolmurig.proofs.judge.moment_of.Goals as goal

pub returns-in-Ok-None-clause-rejected : goal.returns-in-Ok-None-clause-rejected
returns-in-Ok-None-clause-rejected c =
    let none = subst (λ (found : Option ℤ). MatchOption found ((seconds : ℤ) → IsTimeOf c.args.text.now seconds → ⊥) (IsTimeOf c.args.text.now))
    c.in-Ok-None.field-0-is c.in-Ok-None.ensures.found in
    inr (refl, λ seconds named. ⊎_elim (c.in_default.ensures seconds) (none seconds) named)
