use Rattle.std.proofs.Common.{rules, arith, inr, ◌≡◌, ◌+◌, ap, subst, sym, ◌∙◌, refl, take, length, drop, length-drop}
use Rattle.std.proofs.lemmas.Result.{err_from_is_err_and}
use Rattle.std.specs.Str.{IsAscii}
use Rattle.std.specs.String.{string_bytes}
use Rattle.krb_types.specs.Principals.{IsEnd, quoted, quoted_octet}
use Rattle.krb_types.proofs.Quoting.{no_part, one_more, rest_of}
use Rattle.krb_types.proofs.view.principals.first_part.Goals as goal

pub returns-in_err-octet-clause-rejected : goal.returns-in_err-octet-clause-rejected
returns-in_err-octet-clause-rejected c =
    let p = err_from_is_err_and c.from_residual.result c.from_residual.ensures.1 in
    let text = c.args.text.now in
    let taken = c.loop-part.taken in
    let rejected = c.in_err-octet.ensures.rejected in
    let not_end : IsEnd (drop taken text) → ⊥ = λ h. let ends = c.is_end.ensures.1 (subst IsEnd (sym (rest_of text taken)) h) in search (rules, ends, c.loop-part-test.true) in
    rw p.1 (inr (p.2 ∙ rejected.0, no_part text (string_bytes c.loop-part.part) taken c.loop-part.invariant.1 not_end (λ o rest small e. rejected.1 o rest small (rest_of text taken ∙ e))))

pub loop-part-preserved : goal.loop-part-preserved
loop-part-preserved c =
    let text = c.args.text.now in
    let taken = c.loop-part.taken in
    let octet = c.in_ok-octet.ensures.octet in
    let count = c.in_ok-octet.count in
    let within = c.in_ok-octet.ensures.within in
    let read : take count (drop taken text) ≡ quoted_octet c.in_ok-octet.octet = ap (take count) (sym (rest_of text taken)) ∙ octet.1 in
    let more = one_more text _ taken count c.in_ok-octet.octet c.loop-part.invariant.1 c.loop-part.invariant.2 octet.0 read in
    let pushed = c.in_ok-push_ascii.ensures in
    (omega (arith, within.1, ap length (rest_of text taken), length-drop taken text, c.loop-part.invariant.0), ap (take (taken + count)) refl ∙ more.0 ∙ ap quoted (sym pushed), subst IsAscii (sym pushed) more.1)
