-- Whole runs, and a third who changes them.
use Rattle.std.proofs.Common.{◌≡◌, ◌⊎◌, ℕ, List, [], ◌∷◌, Bool, true, false, Option, Some, refl, sym, ap, subst, ◌∙◌, inl, inr}
use Rattle.krb_spnego_rules.specs.AcceptorSteps.{AcceptorSteps}
use Rattle.krb_spnego_rules.specs.EngineRuns.{AcceptorRuns, InitiatorRuns, IsConfirmedChoice, IsUnforged, last_mic, last_state}
use Rattle.krb_spnego_rules.specs.Fields.{items_in}
use Rattle.krb_spnego_rules.specs.InitiatorSteps.{InitiatorSteps}
use Rattle.krb_spnego_rules.specs.Justified.{FitsList, FitsOffering, IsAcceptor, IsInitiator, IsJustified, Offering, Received}
use Rattle.krb_spnego_rules.specs.Meaning.{IsSteady, Meaning}
use Rattle.krb_spnego_rules.specs.declared.words.NegState.{NegState}
use Rattle.krb_spnego_rules.specs.declared.words.Role.TheVariants as roles
use Rattle.krb_spnego_rules.specs.declared.message.Message.{Message}
use Rattle.krb_spnego_rules.specs.declared.message.Refusal.{Refusal}
use Rattle.krb_spnego_rules.specs.declared.side.Complete.{Complete}
use Rattle.krb_spnego_rules.specs.declared.initiator.Initiator.{Initiator}
use Rattle.krb_spnego_rules.specs.declared.initiator.Initiator.TheVariants as initiators
use Rattle.krb_spnego_rules.specs.declared.acceptor.Acceptor.{Acceptor}
use Rattle.krb_spnego_rules.specs.declared.acceptor.Acceptor.TheVariants as acceptors
use Rattle.krb_spnego_rules.proofs.Accepting.{acceptor_step}
use Rattle.krb_spnego_rules.proofs.Initiating.{initiator_step}

pub initiator_run : {M : Type 0} (meaning : Meaning M) → IsSteady meaning → (offering : Offering) (state : Option NegState) (came : Option (List ℕ))
    (before : Initiator M) (messages : List Message) (after : Initiator M) → IsInitiator meaning offering state came before
    → InitiatorRuns meaning before messages after → IsInitiator meaning offering (last_state state messages) (last_mic came messages) after
initiator_run meaning steady offering state came before [] after h run = subst (IsInitiator meaning offering state came) (sym run) h
initiator_run meaning steady offering state came before (message ∷ messages) after h run =
    initiator_run meaning steady offering message.state (items_in message.mic) run.0.0 messages after
    (initiator_step meaning steady offering state came before message run.0 h run.1.0).0 run.1.1

pub acceptor_run : {M : Type 0} (meaning : Meaning M) → IsSteady meaning → (mechanisms : List M) (received : Received) (state : Option NegState)
    (came : Option (List ℕ)) (before : Acceptor M) (messages : List Message) (after : Acceptor M) → IsAcceptor meaning mechanisms received state came before
    → AcceptorRuns meaning before messages after
    → IsAcceptor meaning mechanisms received (last_state state messages) (last_mic came messages) after
acceptor_run meaning steady mechanisms received state came before [] after h run =
    subst (IsAcceptor meaning mechanisms received state came) (sym run) h
acceptor_run meaning steady mechanisms received state came before (message ∷ messages) after h run =
    acceptor_run meaning steady mechanisms received message.state (items_in message.mic) run.0.0 messages after
    (acceptor_step meaning steady mechanisms received state came before message run.0 h run.1.0).0 run.1.1

-- ---- who failed has failed for good

pub initiator_failed : {M : Type 0} (meaning : Meaning M) (refusal : Refusal) (before : Initiator M) (messages : List Message) (after : Initiator M)
    → before ≡ initiators.Failed refusal → InitiatorRuns meaning before messages after → after ≡ initiators.Failed refusal
initiator_failed meaning refusal before [] after h run = run ∙ h
initiator_failed meaning refusal before (message ∷ messages) after h run =
    let step : InitiatorSteps meaning (initiators.Failed refusal) message run.0 = subst (λ s. InitiatorSteps meaning s message run.0) h run.1.0 in
    initiator_failed meaning refusal run.0.0 messages after (ap (λ r. r.0) step) run.1.1

pub acceptor_failed : {M : Type 0} (meaning : Meaning M) (refusal : Refusal) (before : Acceptor M) (messages : List Message) (after : Acceptor M)
    → before ≡ acceptors.Failed refusal → AcceptorRuns meaning before messages after → after ≡ acceptors.Failed refusal
acceptor_failed meaning refusal before [] after h run = run ∙ h
acceptor_failed meaning refusal before (message ∷ messages) after h run =
    let step : AcceptorSteps meaning (acceptors.Failed refusal) message run.0 = subst (λ s. AcceptorSteps meaning s message run.0) h run.1.0 in
    acceptor_failed meaning refusal run.0.0 messages after (ap (λ r. r.0) step) run.1.1

-- ---- a third who changes the list

-- a MIC that came and is unforged is over the peer's list
over_the_peers : {M : Type 0} (meaning : Meaning M) (side : Complete M) (came : Option (List ℕ)) (peer : List ℕ)
    → (mic : List ℕ) × ((came ≡ Some mic) × meaning.holds side.mechanism side.list.items mic) → IsUnforged meaning side came peer → side.list.items ≡ peer
over_the_peers meaning side came peer p unforged = unforged side.list.items p.0 p.1.0 p.1.1

true_or_false : (b : Bool) → (b ≡ true) ⊎ (b ≡ false)
true_or_false true = inl refl
true_or_false false = inr refl

pub found_out : {I A : Type 0} (i_meaning : Meaning I) (a_meaning : Meaning A) (offering : Offering) (mechanisms : List A) (received : Received)
    (i_state a_state : Option NegState) (i_came a_came : Option (List ℕ)) (i : Complete I) (a : Complete A)
    → IsJustified i_meaning (FitsOffering i_meaning offering) offering.list roles.Initiator i_state i_came i
    → IsJustified a_meaning (FitsList a_meaning mechanisms received) received.list roles.Acceptor a_state a_came a
    → IsUnforged i_meaning i i_came received.list → IsUnforged a_meaning a a_came offering.list
    → (received.list ≡ offering.list) ⊎ (IsConfirmedChoice i_meaning offering i_state i × (a.by_mic ≡ false))
found_out i_meaning a_meaning offering mechanisms received i_state a_state i_came a_came i a ij aj iu au =
    elim ij.reason [
      | inl e ↦ inl (sym (over_the_peers i_meaning i i_came received.list (ij.by_mic e) iu) ∙ ij.list_is)
      | inr r ↦ elim (true_or_false a.by_mic) [
        | inl e ↦ inl (sym aj.list_is ∙ over_the_peers a_meaning a a_came offering.list (aj.by_mic e) au)
        | inr e ↦ inr (record { preferred = ij.fitting.first r.0; unasked = r.1.0; agreed = r.1.1 }, e)
      ]
    ]
