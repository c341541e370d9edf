use Rattle.std.proofs.Common.{◌∙◌, Ok, ap, refl, subst, sym}
use Rattle.krb_c_negotiation.specs.Sides.{IsAcceptorAt}
use Rattle.krb_spnego_rules.specs.declared.acceptor.Acceptor.TheVariants as acceptors
use Rattle.krb_c_negotiation.proofs.sides.acceptor_of.Goals as goal

pub returns-in_ok-running_of-in-Waits : goal.returns-in_ok-running_of-in-Waits
returns-in_ok-running_of-in-Waits c =
    subst (λ x. IsAcceptorAt x c.args.side.now c.args.mechanisms c.args.list.now (acceptors.Running c.in_ok-running_of-in-Waits.field-0))
    (sym (sym c.stage_of.ensures ∙ c.in_ok-stage_of.was ∙ ap (λ s. Ok s) c.in-Waits.is))
    (c.in_ok-running_of-in-Waits.field-0, (c.in_ok-running_of-in-Waits.ensures, refl))

pub returns-in_ok-complete_of-in-Complete : goal.returns-in_ok-complete_of-in-Complete
returns-in_ok-complete_of-in-Complete c =
    subst (λ x. IsAcceptorAt x c.args.side.now c.args.mechanisms c.args.list.now (acceptors.Complete c.in_ok-complete_of-in-Complete.field-0))
    (sym (sym c.stage_of.ensures ∙ c.in_ok-stage_of.was ∙ ap (λ s. Ok s) c.in-Complete.is))
    (c.in_ok-complete_of-in-Complete.field-0, (c.in_ok-complete_of-in-Complete.ensures, refl))

pub returns-in_ok-bare_of-in-Bare : goal.returns-in_ok-bare_of-in-Bare
returns-in_ok-bare_of-in-Bare c =
    subst (λ x. IsAcceptorAt x c.args.side.now c.args.mechanisms c.args.list.now (acceptors.Bare c.in_ok-bare_of-in-Bare.field-0))
    (sym (sym c.stage_of.ensures ∙ c.in_ok-stage_of.was ∙ ap (λ s. Ok s) c.in-Bare.is))
    (c.in_ok-bare_of-in-Bare.field-0, (sym c.bare_of.ensures ∙ c.in_ok-bare_of-in-Bare.was, refl))
