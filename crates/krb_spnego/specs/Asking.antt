-- What octets ask of a mechanism that the caller runs elsewhere (RFC 4178, 4.2 and 5): its step, and a MIC to be verified. Or why the side ends the
-- negotiation. These are the first halves of the steps of krb_spnego_rules.
use Rattle.std.specs.Prelude.{◌≡◌, ◌⊎◌, ◌&&◌, not, ℕ, List, Bool, true, false, Option, Some, None, Result, Ok, Err, Vec, find, is_some, if◌then◌else◌}
use Rattle.std.specs.declared.alloc.Global.{Global}
use Rattle.krb_der_core.specs.declared.der.DerEncode.{Ghosts as EncodingOf}
use Rattle.krb_gss_tokens.specs.declared.spnego.GssApiNegInit.{GssApiNegInit}
use Rattle.krb_gss_tokens.specs.declared.spnego.NegTokenTarg.{NegTokenTarg}
use Rattle.krb_spnego_rules.specs.AcceptorSteps.{choice_in_offer, is_first, name_at, named_in, offer_in, rank_in}
use Rattle.krb_spnego_rules.specs.Fields.{items_in, reply_in}
use Rattle.krb_spnego_rules.specs.InitiatorSteps.{first_reply_in}
use Rattle.krb_spnego_rules.specs.Messages.{after_first_reply, after_later, after_offer}
use Rattle.krb_spnego_rules.specs.declared.acceptor.Acceptor.{Acceptor}
use Rattle.krb_spnego_rules.specs.declared.acceptor.Acceptor.TheVariants as acceptors
use Rattle.krb_spnego_rules.specs.declared.acceptor.Fresh.{Fresh}
use Rattle.krb_spnego_rules.specs.declared.initiator.Initiator.{Initiator}
use Rattle.krb_spnego_rules.specs.declared.initiator.Initiator.TheVariants as initiators
use Rattle.krb_spnego_rules.specs.declared.initiator.Offered.{Offered}
use Rattle.krb_spnego_rules.specs.declared.message.Message.{Message}
use Rattle.krb_spnego_rules.specs.declared.message.Proposal.{Proposal}
use Rattle.krb_spnego_rules.specs.declared.message.Refusal.{Refusal}
use Rattle.krb_spnego_rules.specs.declared.message.Refusal.TheVariants.{OutOfMemory, Unread, Broken}
use Rattle.krb_spnego_rules.specs.declared.side.Running.{Running}
use Rattle.krb_spnego_rules.specs.declared.words.Choice.{Choice}
use Rattle.krb_spnego_rules.specs.declared.words.Choice.TheVariants as choices
use Rattle.krb_spnego_rules.specs.declared.words.Rule.{Rule}
use Rattle.krb_spnego_rules.specs.declared.words.Rule.TheVariants as rules
use Rattle.krb_spnego_rules.specs.declared.words.Terms.{Terms}
use Rattle.krb_spnego.specs.Reading.{ReadsOffer, ReadsReply, RejectsOffer, RejectsReply}
use Rattle.krb_spnego.specs.Told.{is_told_name, told_meaning}
use Rattle.krb_spnego.specs.declared.asking.Question.{Question}
use Rattle.krb_spnego.specs.declared.error.ReadError.{ReadError}
use Rattle.krb_spnego.specs.declared.error.ReadError.TheVariants as errors
use Rattle.krb_spnego.specs.declared.told.Told.{Told}

-- why a side ends a negotiation whose octets are no message
abbrev pub refusal_of : ReadError → Refusal
refusal_of errors.OutOfMemory = OutOfMemory
refusal_of (errors.Malformed e) = Unread
refusal_of errors.NotSpnego = Unread
refusal_of errors.UnknownState = Unread

abbrev pub Asked : Type 0
Asked = Result Question Refusal

abbrev pub place_in : Option Told → Option ℕ
place_in None = None
place_in (Some mechanism) = Some mechanism.place

-- octets that `rejects` names are no message; of a message that `reads` names, this is asked
abbrev pub Asks : {Q : Type 0} → (Q → Type 0) → (ReadError → Type 0) → (Q → Asked) → Asked → Type 0
Asks reads rejects asks result =
    ((e : ReadError) × (rejects e × (result ≡ Err (refusal_of e))))
    ⊎ ((message : _) × (reads message × (result ≡ asks message)))

-- ---- an offer (4.2.1): its token is the chosen mechanism's where that is the list's first

abbrev pub offer_asked : Result Terms Rule → Option ℕ → Proposal → Asked
offer_asked (Err rule) place proposal = Err (Broken rule)
offer_asked (Ok terms) None proposal = Err (Broken rules.NoMechanism)
offer_asked (Ok terms) (Some place) proposal =
    Ok (record {
      mechanism = place;
      steps = terms.preferred && is_some proposal.token;
      token = proposal.token;
      mic = proposal.mic;
      list = Some proposal.list;
    })

abbrev pub offer_asks_of : Fresh Told → Proposal → Option ℕ → Option Told → Asked
offer_asks_of fresh proposal rank found =
    offer_asked (after_offer (offer_in (choice_in_offer told_meaning proposal.mechanisms.items (is_first rank) found) proposal) fresh.asks)
    (place_in found) proposal

abbrev pub offer_asks_at : Fresh Told → Proposal → Option ℕ → Asked
offer_asks_at fresh proposal rank =
    offer_asks_of fresh proposal rank (named_in told_meaning fresh.mechanisms.items (name_at rank proposal.mechanisms.items))

abbrev pub offer_asks : Fresh Told → Proposal → Asked
offer_asks fresh proposal = offer_asks_at fresh proposal (rank_in told_meaning fresh.mechanisms.items proposal.mechanisms.items)

abbrev pub OfferAsks : EncodingOf GssApiNegInit → EncodingOf (List (List ℕ)) → Fresh Told → List ℕ → Asked → Type 0
OfferAsks o l fresh octets result = Asks (ReadsOffer o l octets) (RejectsOffer o octets) (offer_asks fresh) result

-- ---- a mechanism's own token, with no negotiation around it

abbrev pub BareAsks : ℕ → List ℕ → Asked → Type 0
BareAsks place octets result =
    (result ≡ Err OutOfMemory)
    ⊎ ((own : Vec ℕ Global) × ((own.items ≡ octets)
    × (result ≡ Ok (record { mechanism = place; steps = true; token = Some own; mic = None; list = None }))))

abbrev pub FreshAsksBy : Option ℕ → EncodingOf GssApiNegInit → EncodingOf (List (List ℕ)) → Fresh Told → List ℕ → Asked → Type 0
FreshAsksBy (Some place) o l fresh octets result = BareAsks place octets result
FreshAsksBy None o l fresh octets result = OfferAsks o l fresh octets result

-- the first of the mechanisms whose own token it is
abbrev pub FreshAsks : EncodingOf GssApiNegInit → EncodingOf (List (List ℕ)) → Fresh Told → List ℕ → Asked → Type 0
FreshAsks o l fresh octets result = FreshAsksBy (place_in (find (λ m. m.bare) fresh.mechanisms.items)) o l fresh octets result

-- ---- the first reply (4.2.2): the preferred mechanism may be established by its first token, any other one begins now

abbrev pub pick_other : Option Told → Choice × Option ℕ
pick_other None = (choices.Unknown, None)
pick_other (Some mechanism) = (choices.Other mechanism.integrity, Some mechanism.place)

abbrev pub pick_in : Offered Told → Option (List ℕ) → Choice × Option ℕ
pick_in offered None = (choices.Absent, None)
pick_in offered (Some name) =
    if is_told_name offered.first name then (choices.Preferred offered.first.integrity, Some offered.first.place)
    else pick_other (find (λ m. is_told_name m name) offered.others.items)

abbrev pub first_reply_asked : Result Terms Rule → Option ℕ → Bool → Message → Asked
first_reply_asked (Err rule) place established message = Err (Broken rule)
first_reply_asked (Ok terms) None established message = Err (Broken rules.NoMechanism)
first_reply_asked (Ok terms) (Some place) established message =
    Ok (record { mechanism = place; steps = not (established && terms.preferred); token = message.token; mic = message.mic; list = None })

abbrev pub first_reply_asks_by : Choice × Option ℕ → Bool → Message → Asked
first_reply_asks_by pick established message =
    first_reply_asked (after_first_reply (first_reply_in pick.0 message) established) pick.1 established message

abbrev pub first_reply_asks : Offered Told → Message → Asked
first_reply_asks offered message = first_reply_asks_by (pick_in offered (items_in message.mechanism)) offered.established message

abbrev pub FirstReplyAsks : EncodingOf NegTokenTarg → Offered Told → List ℕ → Asked → Type 0
FirstReplyAsks t offered octets result = Asks (ReadsReply t octets) (RejectsReply t octets) (first_reply_asks offered) result

-- ---- a later message of either side (4.2.2)

abbrev pub later_asked : Result (Unit {0}) Rule → Running Told → Message → Asked
later_asked (Err rule) side message = Err (Broken rule)
later_asked (Ok u) side message =
    Ok (record { mechanism = side.mechanism.place; steps = not side.established; token = message.token; mic = message.mic; list = None })

abbrev pub later_asks : Running Told → Message → Asked
later_asks side message = later_asked (after_later (reply_in message) side.established) side message

abbrev pub LaterAsks : EncodingOf NegTokenTarg → Running Told → List ℕ → Asked → Type 0
LaterAsks t side octets result = Asks (ReadsReply t octets) (RejectsReply t octets) (later_asks side) result

-- ---- a side

-- after completion a message is one too many, and who failed has failed for good
abbrev pub BareSideAsks : Bool → ℕ → List ℕ → Asked → Type 0
BareSideAsks true place octets result = result ≡ Err (Broken rules.Finished)
BareSideAsks false place octets result = BareAsks place octets result

abbrev pub AcceptorAsks : EncodingOf GssApiNegInit → EncodingOf (List (List ℕ)) → EncodingOf NegTokenTarg → Acceptor Told → List ℕ → Asked → Type 0
AcceptorAsks o l t (acceptors.Fresh side) octets result = FreshAsks o l side octets result
AcceptorAsks o l t (acceptors.Running side) octets result = LaterAsks t side octets result
AcceptorAsks o l t (acceptors.Complete side) octets result = result ≡ Err (Broken rules.Finished)
AcceptorAsks o l t (acceptors.Bare side) octets result = BareSideAsks side.established side.mechanism.place octets result
AcceptorAsks o l t (acceptors.Failed refusal) octets result = result ≡ Err refusal

abbrev pub InitiatorAsks : EncodingOf NegTokenTarg → Initiator Told → List ℕ → Asked → Type 0
InitiatorAsks t (initiators.Offered side) octets result = FirstReplyAsks t side octets result
InitiatorAsks t (initiators.Running side) octets result = LaterAsks t side octets result
InitiatorAsks t (initiators.Complete side) octets result = result ≡ Err (Broken rules.Finished)
InitiatorAsks t (initiators.Failed refusal) octets result = result ≡ Err refusal
