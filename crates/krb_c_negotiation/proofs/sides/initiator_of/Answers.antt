use Rattle.std.proofs.Common.{◌∙◌, Ok, ap, refl, subst, sym}
use Rattle.krb_c_negotiation.specs.Sides.{IsInitiatorAt}
use Rattle.krb_spnego_rules.specs.declared.initiator.Initiator.TheVariants as initiators
use Rattle.krb_c_negotiation.proofs.sides.initiator_of.Goals as goal

pub returns-in_ok-running_of-in-Waits : goal.returns-in_ok-running_of-in-Waits
returns-in_ok-running_of-in-Waits c =
    subst (λ x. IsInitiatorAt x c.args.side.now c.args.mechanisms.items c.args.list.now (initiators.Running c.in_ok-running_of-in-Waits.field-0))
    (sym (sym c.stage_of.ensures ∙ c.in_ok-stage_of.was ∙ ap (λ s. Ok s) c.in-Waits.is))
    (c.in_ok-running_of-in-Waits.field-0, (c.in_ok-running_of-in-Waits.ensures, refl))

pub returns-in_ok-complete_of-in-Complete : goal.returns-in_ok-complete_of-in-Complete
returns-in_ok-complete_of-in-Complete c =
    subst (λ x. IsInitiatorAt x c.args.side.now c.args.mechanisms.items c.args.list.now (initiators.Complete c.in_ok-complete_of-in-Complete.field-0))
    (sym (sym c.stage_of.ensures ∙ c.in_ok-stage_of.was ∙ ap (λ s. Ok s) c.in-Complete.is))
    (c.in_ok-complete_of-in-Complete.field-0, (c.in_ok-complete_of-in-Complete.ensures, refl))

pub returns-in_ok-offered_of-in-Offered : goal.returns-in_ok-offered_of-in-Offered
returns-in_ok-offered_of-in-Offered c =
    subst (λ x. IsInitiatorAt x c.args.side.now c.args.mechanisms.items c.args.list.now (initiators.Offered c.in_ok-offered_of-in-Offered.field-0))
    (sym (sym c.stage_of.ensures ∙ c.in_ok-stage_of.was ∙ ap (λ s. Ok s) c.in-Offered.is))
    (c.in_ok-offered_of-in-Offered.field-0, (c.in_ok-offered_of-in-Offered.ensures, refl))
