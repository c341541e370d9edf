-- One step of an acceptor, exactly (RFC 4178, 3.2 and 4.2.1).
use Rattle.std.specs.Prelude.{◌≡◌, ◌⊎◌, ◌&&◌, ◌==◌, ℕ, List, [], ◌∷◌, Bool, true, false, Option, Some, None, Result, Ok, Err, Vec, find, position, slice_get, is_some, not}
use Rattle.std.specs.List.{list_any}
use Rattle.std.specs.declared.alloc.Global.{Global}
use Rattle.krb_spnego_rules.specs.Decisions.{continues}
use Rattle.krb_spnego_rules.specs.Fields.{items_in}
use Rattle.krb_spnego_rules.specs.Turns.{progress_in, token_in}
use Rattle.krb_spnego_rules.specs.Meaning.{Meaning}
use Rattle.krb_spnego_rules.specs.Messages.{after_offer}
use Rattle.krb_spnego_rules.specs.Steps.{GoesOn, Later, Outcome, saying, waiting_state}
use Rattle.krb_spnego_rules.specs.declared.words.Choice.{Choice}
use Rattle.krb_spnego_rules.specs.declared.words.Choice.TheVariants.{Absent, Unknown, Preferred, Other}
use Rattle.krb_spnego_rules.specs.declared.words.Offer.{Offer}
use Rattle.krb_spnego_rules.specs.declared.words.Role.TheVariants as roles
use Rattle.krb_spnego_rules.specs.declared.words.Rule.{Rule}
use Rattle.krb_spnego_rules.specs.declared.words.Rule.TheVariants as rules
use Rattle.krb_spnego_rules.specs.declared.words.Terms.{Terms}
use Rattle.krb_spnego_rules.specs.declared.mechanism.Turn.{Turn}
use Rattle.krb_spnego_rules.specs.declared.message.Message.{Message}
use Rattle.krb_spnego_rules.specs.declared.message.Proposal.{Proposal}
use Rattle.krb_spnego_rules.specs.declared.message.Refusal.TheVariants.{OutOfMemory, Broken, Unread}
use Rattle.krb_spnego_rules.specs.declared.side.Running.{Running}
use Rattle.krb_spnego_rules.specs.declared.side.After.TheVariants as afters
use Rattle.krb_spnego_rules.specs.declared.acceptor.Acceptor.{Acceptor}
use Rattle.krb_spnego_rules.specs.declared.acceptor.Acceptor.TheVariants as states
use Rattle.krb_spnego_rules.specs.declared.acceptor.Fresh.{Fresh}

-- ---- the choice: of the initiator's list the first that names one of the acceptor's mechanisms, and the first of these that it names

abbrev pub rank_in : {M : Type 0} → Meaning M → List M → List (Vec ℕ Global) → Option ℕ
rank_in meaning mechanisms list = position (λ name. list_any (λ m. meaning.names m name.items) mechanisms) list

abbrev pub name_at : Option ℕ → List (Vec ℕ Global) → Option (Vec ℕ Global)
name_at None list = None
name_at (Some rank) list = slice_get list rank

abbrev pub named_in : {M : Type 0} → Meaning M → List M → Option (Vec ℕ Global) → Option M
named_in meaning mechanisms None = None
named_in meaning mechanisms (Some name) = find (λ m. meaning.names m name.items) mechanisms

abbrev pub is_first : Option ℕ → Bool
is_first None = false
is_first (Some rank) = rank == 0

abbrev pub choice_in_offer : {M : Type 0} → Meaning M → List (Vec ℕ Global) → Bool → Option M → Choice
choice_in_offer meaning [] first found = Absent
choice_in_offer meaning (name ∷ names) first None = Unknown
choice_in_offer meaning (name ∷ names) true (Some mechanism) = Preferred (meaning.integrity mechanism)
choice_in_offer meaning (name ∷ names) false (Some mechanism) = Other (meaning.integrity mechanism)

-- ---- the offer

-- a side whose mechanism is chosen on these terms
abbrev pub taken_up : {M : Type 0} → M → Vec ℕ Global → Terms → Vec ℕ Global → Running M
taken_up mechanism name terms list = record { mechanism = mechanism; name = name; established = false; terms = terms; list = list }

-- the first reply: mechToken is looked at where the mechanism is the initiator's preferred one, and else dropped
abbrev pub FirstAnswers : {M : Type 0} → Meaning M → Running M → Vec ℕ Global → Option (List ℕ) → Option (List ℕ) → Bool → Outcome M → Type 0
FirstAnswers meaning side named token mic true out = GoesOn meaning roles.Acceptor side (Some named) None token mic out
FirstAnswers meaning side named token mic false out =
    out ≡ Ok (afters.Running side, Some (saying (waiting_state true side.terms.required) (Some named) None None))

-- the acceptor goes on with this mechanism, under the name that the list has for it
abbrev pub TakesUp : {M : Type 0} → Meaning M → Proposal → Option (Vec ℕ Global) → M → Terms → Outcome M → Type 0
TakesUp meaning proposal None mechanism terms out = out ≡ Err (Broken rules.NoMechanism)
TakesUp meaning proposal (Some listed) mechanism terms out =
    (out ≡ Err OutOfMemory)
    ⊎ ((name : Vec ℕ Global) × ((named : Vec ℕ Global) × ((name.items ≡ listed.items) × ((named.items ≡ listed.items)
    × FirstAnswers meaning (taken_up mechanism name terms proposal.list) named (items_in proposal.token) (items_in proposal.mic)
    (terms.preferred && is_some proposal.token) out))))

-- what follows the rules of the offer; where no mechanism is found, they refuse
abbrev pub OfferedBy : {M : Type 0} → Meaning M → Proposal → Option (Vec ℕ Global) → Option M → Result Terms Rule → Outcome M → Type 0
OfferedBy meaning proposal listed found (Err rule) out = out ≡ Err (Broken rule)
OfferedBy meaning proposal listed None (Ok terms) out = out ≡ Err (Broken rules.NoMechanism)
OfferedBy meaning proposal listed (Some mechanism) (Ok terms) out = TakesUp meaning proposal listed mechanism terms out

abbrev pub offer_in : Choice → Proposal → Offer
offer_in choice proposal = record { choice = choice; token = is_some proposal.token; mic = is_some proposal.mic }

abbrev pub OfferedAs : {M : Type 0} → Meaning M → Bool → Proposal → Option ℕ → Option (Vec ℕ Global) → Option M → Outcome M → Type 0
OfferedAs meaning asks proposal rank listed found out =
    OfferedBy meaning proposal listed found
    (after_offer (offer_in (choice_in_offer meaning proposal.mechanisms.items (is_first rank) found) proposal) asks) out

abbrev pub OfferedFor : {M : Type 0} → Meaning M → Fresh M → Proposal → Option ℕ → Outcome M → Type 0
OfferedFor meaning side proposal rank out =
    OfferedAs meaning side.asks proposal rank (name_at rank proposal.mechanisms.items)
    (named_in meaning side.mechanisms.items (name_at rank proposal.mechanisms.items)) out

abbrev pub IsOffered : {M : Type 0} → Meaning M → Fresh M → Proposal → Outcome M → Type 0
IsOffered meaning side proposal out =
    OfferedFor meaning side proposal (rank_in meaning side.mechanisms.items proposal.mechanisms.items) out

-- ---- a mechanism's own tokens, with no negotiation around them

-- the side after such a token, and the mechanism's own
abbrev pub BareSteps : {M : Type 0} → Meaning M → M → List ℕ → Acceptor M × Option (Vec ℕ Global) → Type 0
BareSteps meaning mechanism token result =
    (result ≡ (states.Failed OutOfMemory, None))
    ⊎ ((meaning.refuses mechanism (Some token) × (result ≡ (states.Failed (Broken rules.MechanismFailed), None)))
    ⊎ ((context : _) × ((turn : Turn) × (meaning.steps mechanism (Some token) context turn
    × (result ≡ (states.Bare (record { mechanism = context; established = not (continues (progress_in turn)) }), token_in turn))))))

abbrev pub FirstBare : {M : Type 0} → Meaning M → Option M → List ℕ → Acceptor M × Option (Vec ℕ Global) → Type 0
FirstBare meaning None token result = result ≡ (states.Failed Unread, None)
FirstBare meaning (Some mechanism) token result = BareSteps meaning mechanism token result

abbrev pub BareGoesOn : {M : Type 0} → Meaning M → M → Bool → List ℕ → Acceptor M × Option (Vec ℕ Global) → Type 0
BareGoesOn meaning mechanism true token result = result ≡ (states.Failed (Broken rules.Finished), None)
BareGoesOn meaning mechanism false token result = BareSteps meaning mechanism token result

-- ---- steps

abbrev pub settled : {M : Type 0} → Outcome M → Acceptor M × Option Message
settled (Ok (afters.Running side, answer)) = (states.Running side, answer)
settled (Ok (afters.Complete side, answer)) = (states.Complete side, answer)
settled (Err refusal) = (states.Failed refusal, None)

-- the side that a message ends for which it does not wait: after completion it is one too many, and who failed has failed for good
abbrev pub ended : {M : Type 0} → Acceptor M → Acceptor M
ended (states.Fresh side) = states.Failed Unread
ended (states.Running side) = states.Failed Unread
ended (states.Bare side) = states.Failed Unread
ended (states.Complete side) = states.Failed (Broken rules.Finished)
ended (states.Failed refusal) = states.Failed refusal

abbrev pub AcceptorIsOffered : {M : Type 0} → Meaning M → Acceptor M → Proposal → Acceptor M × Option Message → Type 0
AcceptorIsOffered meaning (states.Fresh side) proposal result = (out : Outcome _) × (IsOffered meaning side proposal out × (result ≡ settled out))
AcceptorIsOffered meaning (states.Running side) proposal result = result ≡ (ended (states.Running side), None)
AcceptorIsOffered meaning (states.Bare side) proposal result = result ≡ (ended (states.Bare side), None)
AcceptorIsOffered meaning (states.Complete side) proposal result = result ≡ (ended (states.Complete side), None)
AcceptorIsOffered meaning (states.Failed refusal) proposal result = result ≡ (ended (states.Failed refusal), None)

abbrev pub AcceptorSteps : {M : Type 0} → Meaning M → Acceptor M → Message → Acceptor M × Option Message → Type 0
AcceptorSteps meaning (states.Running side) message result = (out : Outcome _) × (Later meaning roles.Acceptor side message out × (result ≡ settled out))
AcceptorSteps meaning (states.Fresh side) message result = result ≡ (ended (states.Fresh side), None)
AcceptorSteps meaning (states.Bare side) message result = result ≡ (ended (states.Bare side), None)
AcceptorSteps meaning (states.Complete side) message result = result ≡ (ended (states.Complete side), None)
AcceptorSteps meaning (states.Failed refusal) message result = result ≡ (ended (states.Failed refusal), None)

abbrev pub AcceptorTakesBare : {M : Type 0} → Meaning M → Acceptor M → List ℕ → Acceptor M × Option (Vec ℕ Global) → Type 0
AcceptorTakesBare meaning (states.Fresh side) token result = FirstBare meaning (find (λ m. meaning.bare m token) side.mechanisms.items) token result
AcceptorTakesBare meaning (states.Bare side) token result = BareGoesOn meaning side.mechanism side.established token result
AcceptorTakesBare meaning (states.Running side) token result = result ≡ (ended (states.Running side), None)
AcceptorTakesBare meaning (states.Complete side) token result = result ≡ (ended (states.Complete side), None)
AcceptorTakesBare meaning (states.Failed refusal) token result = result ≡ (ended (states.Failed refusal), None)

-- whether octets go to a mechanism, with no negotiation around them
abbrev pub takes_bare : {M : Type 0} → Meaning M → Acceptor M → List ℕ → Bool
takes_bare meaning (states.Fresh side) token = list_any (λ m. meaning.bare m token) side.mechanisms.items
takes_bare meaning (states.Bare side) token = true
takes_bare meaning (states.Running side) token = false
takes_bare meaning (states.Complete side) token = false
takes_bare meaning (states.Failed refusal) token = false
