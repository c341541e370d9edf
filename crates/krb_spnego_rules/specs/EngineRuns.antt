-- Whole runs of a side: messages one after another (RFC 4178, 5).
use Rattle.std.specs.Prelude.{◌≡◌, ℕ, List, [], ◌∷◌, false, Option, Some}
use Rattle.krb_spnego_rules.specs.AcceptorSteps.{AcceptorSteps}
use Rattle.krb_spnego_rules.specs.Fields.{items_in}
use Rattle.krb_spnego_rules.specs.InitiatorSteps.{InitiatorSteps}
use Rattle.krb_spnego_rules.specs.Justified.{Offering, Received}
use Rattle.krb_spnego_rules.specs.Meaning.{Meaning}
use Rattle.krb_spnego_rules.specs.declared.words.NegState.{NegState}
use Rattle.krb_spnego_rules.specs.declared.words.NegState.TheVariants.{AcceptCompleted}
use Rattle.krb_spnego_rules.specs.declared.message.Message.{Message}
use Rattle.krb_spnego_rules.specs.declared.message.Proposal.{Proposal}
use Rattle.krb_spnego_rules.specs.declared.side.Complete.{Complete}
use Rattle.krb_spnego_rules.specs.declared.initiator.Initiator.{Initiator}
use Rattle.krb_spnego_rules.specs.declared.acceptor.Acceptor.{Acceptor}

abbrev pub InitiatorRuns : {M : Type 0} → Meaning M → Initiator M → List Message → Initiator M → Type 0
InitiatorRuns meaning before [] after = after ≡ before
InitiatorRuns meaning before (message ∷ messages) after =
    (next : Initiator _ × Option Message) × (InitiatorSteps meaning before message next × InitiatorRuns meaning next.0 messages after)

abbrev pub AcceptorRuns : {M : Type 0} → Meaning M → Acceptor M → List Message → Acceptor M → Type 0
AcceptorRuns meaning before [] after = after ≡ before
AcceptorRuns meaning before (message ∷ messages) after =
    (next : Acceptor _ × Option Message) × (AcceptorSteps meaning before message next × AcceptorRuns meaning next.0 messages after)

-- negState and mechListMIC of the last message, or what they were before the first
abbrev pub last_state : Option NegState → List Message → Option NegState
last_state state [] = state
last_state state (message ∷ messages) = last_state message.state messages

abbrev pub last_mic : Option (List ℕ) → List Message → Option (List ℕ)
last_mic came [] = came
last_mic came (message ∷ messages) = last_mic (items_in message.mic) messages

-- what an acceptor was offered
abbrev pub received_in : Proposal → Received
received_in proposal = record { names = proposal.mechanisms.items; list = proposal.list.items }

-- the MIC that came holds of no other text than the peer's list: nobody forged it, and the peer made it over its list
abbrev pub IsUnforged : {M : Type 0} → Meaning M → Complete M → Option (List ℕ) → List ℕ → Type 0
IsUnforged meaning side came list = (text mic : List ℕ) → came ≡ Some mic → meaning.holds side.mechanism text mic → text ≡ list

-- an initiator with no MIC of the acceptor: it is on its preferred mechanism, nobody asked for MICs, and the acceptor said that it is complete
pub record IsConfirmedChoice {M : Type 0} (meaning : Meaning M) (offering : Offering) (state : Option NegState) (side : Complete M) : Type 0 where
  pub preferred : meaning.oid side.mechanism ≡ offering.preferred
  pub unasked : side.terms.required ≡ false
  pub agreed : state ≡ Some AcceptCompleted
