use Rattle.std.proofs.Common.{ap, sym, ◌∙◌}
use Rattle.std.specs.Prelude.{find}
use Rattle.krb_spnego_rules.specs.InitiatorSteps.{picks_other}
use Rattle.krb_spnego_rules.proofs.Doing.{picked_other}
use Rattle.krb_spnego_rules.proofs.initiator.picked.Goals as goal

pub returns : goal.returns
returns g c =
    let m = g.M.Mechanism.meaning in
    c.other_choice.ensures
    ∙ (ap (λ found. picks_other m found) c.find_named.ensures
    ∙ (ap (λ name. picks_other m (find (λ x. m.names x name) c.args.others.items)) c.as_slice-in-Some.ensures.value
    ∙ picked_other m c.args.first c.args.others.items c.args.named.now c.in-Some.name c.in-Some.is
    (ap (m.names c.args.first) (sym c.as_slice.ensures.value) ∙ (sym c.is_named.ensures ∙ c.if-is_named.false))))
