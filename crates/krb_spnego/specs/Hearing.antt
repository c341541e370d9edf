-- Whole runs of a side over octets, one after another (RFC 4178, 5).
use Rattle.std.specs.Prelude.{◌≡◌, ◌⊎◌, ℕ, List, [], ◌∷◌, None}
use Rattle.krb_der_core.specs.declared.der.DerEncode.{Ghosts as EncodingOf}
use Rattle.krb_gss_tokens.specs.declared.spnego.GssApiNegInit.{GssApiNegInit}
use Rattle.krb_gss_tokens.specs.declared.spnego.NegTokenTarg.{NegTokenTarg}
use Rattle.krb_spnego_rules.specs.EngineRuns.{received_in}
use Rattle.krb_spnego_rules.specs.Fields.{items_in}
use Rattle.krb_spnego_rules.specs.Justified.{IsAcceptor, IsInitiator, Offering, Received}
use Rattle.krb_spnego_rules.specs.Meaning.{Meaning}
use Rattle.krb_spnego_rules.specs.declared.acceptor.Acceptor.{Acceptor}
use Rattle.krb_spnego_rules.specs.declared.acceptor.Acceptor.TheVariants as acceptors
use Rattle.krb_spnego_rules.specs.declared.acceptor.Fresh.{Fresh}
use Rattle.krb_spnego_rules.specs.declared.initiator.Initiator.{Initiator}
use Rattle.krb_spnego_rules.specs.declared.initiator.Initiator.TheVariants as initiators
use Rattle.krb_spnego_rules.specs.declared.message.Message.{Message}
use Rattle.krb_spnego_rules.specs.declared.message.Proposal.{Proposal}
use Rattle.krb_spnego.specs.Reading.{ReadsOffer, ReadsReply}
use Rattle.krb_spnego.specs.Taking.{AcceptorTakes, InitiatorTakes, Taken}

-- ---- an initiator

abbrev pub HasFailed : {M : Type 0} → Initiator M → Type 0
HasFailed (initiators.Offered side) = ⊥
HasFailed (initiators.Running side) = ⊥
HasFailed (initiators.Complete side) = ⊥
HasFailed (initiators.Failed refusal) = Unit {0}

abbrev pub InitiatorHears : {M : Type 0} → EncodingOf NegTokenTarg → Meaning M → Initiator M → List (List ℕ) → Initiator M → Type 0
InitiatorHears t meaning before [] after = after ≡ before
InitiatorHears t meaning before (octets ∷ all) after =
    (next : Taken (Initiator _)) × (InitiatorTakes t meaning before octets next × InitiatorHears t meaning next.0 all after)

-- the side has failed; or the octets are the one encoding of a message, and the side is as the laws want it whose last message had this negState and MIC
abbrev pub IsInitiatorAfter : {M : Type 0} → EncodingOf NegTokenTarg → Meaning M → Offering → List ℕ → Initiator M → Type 0
IsInitiatorAfter t meaning offering octets side =
    HasFailed side ⊎ ((message : Message) × (ReadsReply t octets message × IsInitiator meaning offering message.state (items_in message.mic) side))

-- ---- an acceptor

-- the side has failed, or a mechanism's own tokens are exchanged with no negotiation around them
abbrev pub HasNoNegotiation : {M : Type 0} → Acceptor M → Type 0
HasNoNegotiation (acceptors.Fresh side) = ⊥
HasNoNegotiation (acceptors.Running side) = ⊥
HasNoNegotiation (acceptors.Complete side) = ⊥
HasNoNegotiation (acceptors.Bare side) = Unit {0}
HasNoNegotiation (acceptors.Failed refusal) = Unit {0}

abbrev pub AcceptorHears : {M : Type 0} → EncodingOf GssApiNegInit → EncodingOf (List (List ℕ)) → EncodingOf NegTokenTarg → Meaning M → Acceptor M
    → List (List ℕ) → Acceptor M → Type 0
AcceptorHears o l t meaning before [] after = after ≡ before
AcceptorHears o l t meaning before (octets ∷ all) after =
    (next : Taken (Acceptor _)) × (AcceptorTakes o l t meaning before octets next × AcceptorHears o l t meaning next.0 all after)

-- the first octets are the one encoding of an offer, and the side is as the laws want it that got this list
abbrev pub IsAcceptorAfterOffer : {M : Type 0} → EncodingOf GssApiNegInit → EncodingOf (List (List ℕ)) → Meaning M → Fresh M → List ℕ → Acceptor M → Type 0
IsAcceptorAfterOffer o l meaning fresh octets side =
    HasNoNegotiation side
    ⊎ ((proposal : Proposal) × (ReadsOffer o l octets proposal
    × IsAcceptor meaning fresh.mechanisms.items (received_in proposal) None (items_in proposal.mic) side))

-- later octets are the one encoding of a reply
abbrev pub IsAcceptorAfter : {M : Type 0} → EncodingOf NegTokenTarg → Meaning M → List M → Received → List ℕ → Acceptor M → Type 0
IsAcceptorAfter t meaning mechanisms received octets side =
    HasNoNegotiation side
    ⊎ ((message : Message) × (ReadsReply t octets message
    × IsAcceptor meaning mechanisms received message.state (items_in message.mic) side))
