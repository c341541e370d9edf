use Rattle.std.proofs.Common.{◌≡◌, ◌+◌, ◌-◌, suc, sym, ap, ◌∙◌, arith}
use Rattle.std.proofs.lemmas.Result.{err_from_is_err_and}
use Rattle.krb_pac_contents.specs.Referents.{after_sids}
use Rattle.krb_pac_contents.specs.Steps.{Read}
use Rattle.krb_pac_contents.proofs.Loops.{sid_read, sid_refused, sids_end}
use Rattle.krb_pac_contents.proofs.referents.after.Goals as goal

pub returns-in_err-rest : goal.returns-in_err-rest
returns-in_err-rest c =
    let p = err_from_is_err_and c.from_residual.result c.from_residual.ensures.1 in
    let more : c.args.count - c.sids.n ≡ suc (c.args.count - (c.sids.n + 1)) = omega arith in
    rw (p.1, p.2) (c.sids.invariant ∙ sid_refused _ (c.args.count - (c.sids.n + 1)) _ c.sids.rest.now more (sym c.in_err-rest.ensures))

pub sids-preserved : goal.sids-preserved
sids-preserved c =
    let more : c.args.count - c.sids.n ≡ suc (c.args.count - (c.sids.n + 1)) = omega arith in
    c.sids.invariant ∙ sid_read _ (c.args.count - (c.sids.n + 1)) _ c.sids.rest.now more (sym c.in_ok-rest.ensures) ∙ ap (λ (s : Read). after_sids (c.args.count - (c.sids.n + 1)) s.rest) (sym c.branch.view_is)

pub returns : goal.returns
returns c = c.sids.invariant ∙ sids_end _ c.sids.rest.now (omega arith)
