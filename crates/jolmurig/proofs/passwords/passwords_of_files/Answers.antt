use Rattle.std.proofs.Common.{ap, sym, ◌∙◌, ◌+◌, ◌∷◌, drop, map, arith}
use Rattle.std.proofs.Math.ListN.{drop_of_length-le}
use Rattle.std.proofs.lemmas.List.{drop_more}
use Rattle.std.proofs.lemmas.Result.{err_from_is_err_and}
use Rattle.jolmurig.proofs.PasswordLists.{continues_more, continues_none, continues_rejected}
use Rattle.jolmurig.proofs.passwords.passwords_of_files.Goals as goal

pub names-preserved : goal.names-preserved
names-preserved g c =
    let names = c.args.names.now in
    let n = c.names.name-index in
    let cut = drop_more names n c.name-item.result c.names-test.true ∙ ap (λ y. y ∷ drop (n + 1) names) (sym c.name-item.is) in
    continues_more (g.F.Files.gives c.args.files.now) c.name-item.result (drop n names) (drop (n + 1) names) names
    (map (λ p. p.items) c.names.passwords.items) (map (λ p. p.items) c.push_password.new.passwords.items) cut c.names.invariant
    (rw (← c.name.view_is) c.in_ok-push_password.ensures.found)

pub returns-in_err-push_password-clause-rejected : goal.returns-in_err-push_password-clause-rejected
returns-in_err-push_password-clause-rejected g c =
    let names = c.args.names.now in
    let n = c.names.name-index in
    let cut = drop_more names n c.name-item.result c.names-test.true ∙ ap (λ y. y ∷ drop (n + 1) names) (sym c.name-item.is) in
    let p = err_from_is_err_and c.from_residual.result c.from_residual.ensures.1 in
    rw (p.1, p.2) (continues_rejected (g.F.Files.gives c.args.files.now) c.name-item.result (drop n names) (drop (n + 1) names) names
    (map (λ p. p.items) c.names.passwords.items) _ cut c.names.invariant (rw (← c.name.view_is) c.in_err-push_password.ensures.rejected))

pub returns-clause-found : goal.returns-clause-found
returns-clause-found g c =
    continues_none (g.F.Files.gives c.args.files.now) (drop c.names.name-index c.args.names.now) c.args.names.now _
    (drop_of_length-le c.args.names.now (omega (arith, c.names-test.false))) c.names.invariant
