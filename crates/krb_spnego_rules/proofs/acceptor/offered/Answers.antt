use Rattle.std.proofs.Common.{ap, ◌∙◌}
use Rattle.krb_spnego_rules.specs.AcceptorSteps.{name_at, named_in, rank_in}
use Rattle.krb_spnego_rules.proofs.Doing.{offered_as}
use Rattle.krb_spnego_rules.proofs.acceptor.offered.Goals as goal

pub returns : goal.returns
returns g c =
    let m = g.M.Mechanism.meaning in
    offered_as m c.args.fresh c.args.proposal c.first_supported-rank.result c.named_by-found.result c.offered_as.result
    (c.first_supported-rank.ensures ∙ (ap (λ ms. rank_in m ms c.deref-2.result.now) c.deref.ensures.value
    ∙ ap (rank_in m c.args.fresh.mechanisms.items) c.deref-2.ensures.value))
    (c.named_by-found.ensures ∙ (ap (named_in m c.args.fresh.mechanisms.items) c.listed.ensures
    ∙ ap (λ list. named_in m c.args.fresh.mechanisms.items (name_at c.first_supported-rank.result list)) c.as_slice.ensures.value))
    c.offered_as.ensures
