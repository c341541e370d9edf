use Rattle.std.proofs.Common.{ap, ◌∙◌}
use Rattle.std.specs.Prelude.{◌&&◌}
use Rattle.std.specs.Option.{option_copied}
use Rattle.krb_spnego_rules.specs.AcceptorSteps.{name_at}
use Rattle.krb_spnego_rules.proofs.Doing.{took_up}
use Rattle.krb_spnego_rules.proofs.acceptor.take_up.Goals as goal

pub returns-in_ok-named-in-Some : goal.returns-in_ok-named-in-Some
returns-in_ok-named-in-Some g c =
    took_up g.M.Mechanism.meaning c.args.proposal (name_at c.args.rank c.args.proposal.mechanisms.items) c.args.mechanism c.args.terms c.first_answer.result
    c.in-Some.listed.now c.in_ok-name-in-Some.name c.in_ok-named-in-Some.named (option_copied c.octets.result) (option_copied c.octets-in-Some.result)
    c.looks_at-looks.result (c.in-Some.ensures ∙ ap (name_at c.args.rank) c.as_slice.ensures.value) c.in_ok-name-in-Some.ensures c.in_ok-named-in-Some.ensures
    c.octets.ensures c.octets-in-Some.ensures
    (c.looks_at-looks.ensures ∙ ap (λ there. c.args.terms.preferred && there) c.is_some.ensures) c.first_answer.ensures
