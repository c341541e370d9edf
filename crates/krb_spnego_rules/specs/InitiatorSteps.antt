-- One step of an initiator, exactly (RFC 4178, 3.2 and 4.2.2).
use Rattle.std.specs.Prelude.{◌≡◌, ◌⊎◌, ◌&&◌, ℕ, List, Bool, Option, Some, None, Result, Ok, Err, Vec, find, if◌then◌else◌, is_some, not}
use Rattle.std.specs.declared.alloc.Global.{Global}
use Rattle.krb_spnego_rules.specs.Decisions.{continues}
use Rattle.krb_spnego_rules.specs.Fields.{items_in}
use Rattle.krb_spnego_rules.specs.Turns.{progress_in, token_in}
use Rattle.krb_spnego_rules.specs.Meaning.{Meaning}
use Rattle.krb_spnego_rules.specs.Messages.{after_first_reply}
use Rattle.krb_spnego_rules.specs.Steps.{GoesOn, Later, Outcome}
use Rattle.krb_spnego_rules.specs.declared.words.Choice.{Choice}
use Rattle.krb_spnego_rules.specs.declared.words.Choice.TheVariants.{Absent, Unknown, Preferred, Other}
use Rattle.krb_spnego_rules.specs.declared.words.Role.TheVariants as roles
use Rattle.krb_spnego_rules.specs.declared.words.Reply.{Reply}
use Rattle.krb_spnego_rules.specs.declared.words.Rule.{Rule}
use Rattle.krb_spnego_rules.specs.declared.words.Rule.TheVariants as rules
use Rattle.krb_spnego_rules.specs.declared.words.Terms.{Terms}
use Rattle.krb_spnego_rules.specs.declared.mechanism.Turn.{Turn}
use Rattle.krb_spnego_rules.specs.declared.message.Message.{Message}
use Rattle.krb_spnego_rules.specs.declared.message.Refusal.TheVariants.{OutOfMemory, Broken, Unread}
use Rattle.krb_spnego_rules.specs.declared.side.Running.{Running}
use Rattle.krb_spnego_rules.specs.declared.side.After.TheVariants as afters
use Rattle.krb_spnego_rules.specs.declared.initiator.Offered.{Offered}
use Rattle.krb_spnego_rules.specs.declared.initiator.Initiator.{Initiator}
use Rattle.krb_spnego_rules.specs.declared.initiator.Initiator.TheVariants as states

-- ---- the first reply

-- what a supportedMech comes to, and the mechanism that it names: the preferred one, or the first other one that has this name
abbrev pub picks_other : {M : Type 0} → Meaning M → Option M → Choice × Option M
picks_other meaning None = (Unknown, None)
picks_other meaning (Some mechanism) = (Other (meaning.integrity mechanism), Some mechanism)

abbrev pub picks : {M : Type 0} → Meaning M → M → List M → Option (List ℕ) → Choice × Option M
picks meaning first others None = (Absent, None)
picks meaning first others (Some name) =
    if meaning.names first name then (Preferred (meaning.integrity first), Some first)
    else picks_other meaning (find (λ m. meaning.names m name) others)

abbrev pub first_reply_in : Choice → Message → Reply
first_reply_in choice message = record { state = message.state; choice = choice; token = is_some message.token }

-- a side whose mechanism is chosen on these terms; the preferred mechanism may be established by its first token
abbrev pub chosen : {M : Type 0} → Bool → Vec ℕ Global → M → Vec ℕ Global → Terms → Running M
chosen established list mechanism name terms =
    record { mechanism = mechanism; name = name; established = established && terms.preferred; terms = terms; list = list }

-- the side goes on with the mechanism that the reply names, under that name
abbrev pub GoesOnAs : {M : Type 0} → Meaning M → Bool → Vec ℕ Global → Message → M → Terms → Option (List ℕ) → Outcome M → Type 0
GoesOnAs meaning established list message mechanism terms None out = out ≡ Err (Broken rules.NoMechanism)
GoesOnAs meaning established list message mechanism terms (Some arcs) out =
    (out ≡ Err OutOfMemory)
    ⊎ ((name : Vec ℕ Global) × ((name.items ≡ arcs)
    × GoesOn meaning roles.Initiator (chosen established list mechanism name terms) None message.state (items_in message.token) (items_in message.mic) out))

-- what follows the rules of the first reply; where no mechanism is named, they refuse
abbrev pub RepliedBy : {M : Type 0} → Meaning M → Bool → Vec ℕ Global → Message → Option M → Result Terms Rule → Outcome M → Type 0
RepliedBy meaning established list message found (Err rule) out = out ≡ Err (Broken rule)
RepliedBy meaning established list message None (Ok terms) out = out ≡ Err (Broken rules.NoMechanism)
RepliedBy meaning established list message (Some mechanism) (Ok terms) out =
    GoesOnAs meaning established list message mechanism terms (items_in message.mechanism) out

abbrev pub RepliedAs : {M : Type 0} → Meaning M → Bool → Vec ℕ Global → Message → Choice × Option M → Outcome M → Type 0
RepliedAs meaning established list message pick out =
    RepliedBy meaning established list message pick.1 (after_first_reply (first_reply_in pick.0 message) established) out

abbrev pub Replied : {M : Type 0} → Meaning M → Offered M → Message → Outcome M → Type 0
Replied meaning side message out =
    RepliedAs meaning side.established side.list message (picks meaning side.first side.others.items (items_in message.mechanism)) out

-- ---- a step

abbrev pub settled : {M : Type 0} → Outcome M → Initiator M × Option Message
settled (Ok (afters.Running side, answer)) = (states.Running side, answer)
settled (Ok (afters.Complete side, answer)) = (states.Complete side, answer)
settled (Err refusal) = (states.Failed refusal, None)

-- the side after a message, and its answer: after completion a message is one too many, and who failed has failed for good
abbrev pub InitiatorSteps : {M : Type 0} → Meaning M → Initiator M → Message → Initiator M × Option Message → Type 0
InitiatorSteps meaning (states.Offered side) message result = (out : Outcome _) × (Replied meaning side message out × (result ≡ settled out))
InitiatorSteps meaning (states.Running side) message result = (out : Outcome _) × (Later meaning roles.Initiator side message out × (result ≡ settled out))
InitiatorSteps meaning (states.Complete side) message result = result ≡ (states.Failed (Broken rules.Finished), None)
InitiatorSteps meaning (states.Failed refusal) message result = result ≡ (states.Failed refusal, None)

-- octets that are no message
abbrev pub unread_initiator : {M : Type 0} → Initiator M → Initiator M
unread_initiator (states.Offered side) = states.Failed Unread
unread_initiator (states.Running side) = states.Failed Unread
unread_initiator (states.Complete side) = states.Failed (Broken rules.Finished)
unread_initiator (states.Failed refusal) = states.Failed refusal

-- ---- the offer

-- the preferred mechanism begins, and its first token is the offer's
abbrev pub Begins : {M : Type 0} → Meaning M → M → Vec M Global → Vec ℕ Global → Initiator M × Option (Vec ℕ Global) → Type 0
Begins meaning first others list out =
    (context : _) × ((turn : Turn) × (meaning.steps first None context turn
    × (out ≡ (states.Offered (record { first = context; established = not (continues (progress_in turn)); others = others; list = list }), token_in turn))))
