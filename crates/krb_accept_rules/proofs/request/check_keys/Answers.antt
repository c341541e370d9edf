use Rattle.std.proofs.Common.{inl, inr, refl}
use Rattle.std.proofs.lemmas.Result.{err_from_is_err_and}
use Rattle.krb_accept_rules.proofs.request.check_keys.Goals as goal

pub returns-in_err-_of_type-clause-broken : goal.returns-in_err-_of_type-clause-broken
returns-in_err-_of_type-clause-broken g c =
    let p = err_from_is_err_and c.from_residual-in_err-_of_type.result c.from_residual-in_err-_of_type.ensures.1 in
    let served = rw c.if-not-is_served.false at c.is_served.ensures in
    let server = rw c.keys_for-candidates.ensures at c.in_ok-_of_server.ensures.kept in
    let none = rw c.keys_for-candidates.ensures at c.in_err-_of_type.ensures.broken.1 in
    rw (p.1, p.2, c.in_err-_of_type.ensures.broken.0, c.plain-3.ensures) (inr ((served, server), inl (refl, none)), refl)

pub returns-in_err-_of_version-clause-broken : goal.returns-in_err-_of_version-clause-broken
returns-in_err-_of_version-clause-broken g c =
    let p = err_from_is_err_and c.from_residual-in_err-_of_version.result c.from_residual-in_err-_of_version.ensures.1 in
    let served = rw c.if-not-is_served.false at c.is_served.ensures in
    let server = rw c.keys_for-candidates.ensures at c.in_ok-_of_server.ensures.kept in
    let etype = rw c.keys_for-candidates.ensures at c.in_ok-_of_type.ensures.kept in
    let none = rw c.keys_for-candidates.ensures at c.in_err-_of_version.ensures.broken.1 in
    rw (p.1, p.2, c.in_err-_of_version.ensures.broken.0, c.other_version.ensures.rule)
    (inr ((served, server), inr (etype, inl (refl, none))), c.other_version.ensures.seen)
