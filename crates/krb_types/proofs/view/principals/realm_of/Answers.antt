use Rattle.std.proofs.Common.{inr, refl, sym, ◌∙◌}
use Rattle.std.proofs.lemmas.Result.{err_from_is_err_and}
use Rattle.krb_types.proofs.Quoting.{memory_or, no_realm_part, no_long_realm}
use Rattle.krb_types.proofs.view.principals.realm_of.Goals as goal

pub returns-in_err-realm-clause-rejected : goal.returns-in_err-realm-clause-rejected
returns-in_err-realm-clause-rejected c =
    let p = err_from_is_err_and c.from_residual.result c.from_residual.ensures.1 in
    let rest = c.in-Some.rest.now in
    rw (p.1, p.2) (memory_or _ _ _ c.in_err-realm.ensures.rejected (λ none r ascii e. no_realm_part rest none r ascii (sym c.in-Some.ensures ∙ e)))

pub returns-then-taken-rest-clause-rejected : goal.returns-then-taken-rest-clause-rejected
returns-then-taken-rest-clause-rejected c =
    let read = c.in_ok-realm.ensures in
    inr (refl, λ r ascii e. no_long_realm c.in-Some.rest.now c.in_ok-realm.realm c.in_ok-realm.taken read.part read.end c.if-taken-rest.true r ascii (sym c.in-Some.ensures ∙ e))
