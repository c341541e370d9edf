-- One step of a side whose mechanism is chosen, exactly (RFC 4178, 4.2.2 and 5).
use Rattle.std.specs.Prelude.{◌≡◌, ◌⊎◌, ◌||◌, not, ℕ, List, Bool, true, false, Option, Some, None, Result, Ok, Err, Vec, is_some}
use Rattle.std.specs.declared.alloc.Global.{Global}
use Rattle.krb_spnego_rules.specs.Decisions.{acceptor_does, continues, holds as is_held, initiator_does}
use Rattle.krb_spnego_rules.specs.Fields.{items_in, reply_in}
use Rattle.krb_spnego_rules.specs.Turns.{progress_in, token_in}
use Rattle.krb_spnego_rules.specs.Meaning.{Meaning}
use Rattle.krb_spnego_rules.specs.Messages.{after_later}
use Rattle.krb_spnego_rules.specs.Mics.{IsSeen}
use Rattle.krb_spnego_rules.specs.declared.words.NegState.{NegState}
use Rattle.krb_spnego_rules.specs.declared.words.NegState.TheVariants.{AcceptCompleted, AcceptIncomplete, RequestMic}
use Rattle.krb_spnego_rules.specs.declared.words.Role.{Role}
use Rattle.krb_spnego_rules.specs.declared.words.Role.TheVariants.{Initiator, Acceptor}
use Rattle.krb_spnego_rules.specs.declared.words.Rule.{Rule}
use Rattle.krb_spnego_rules.specs.declared.words.Rule.TheVariants as rules
use Rattle.krb_spnego_rules.specs.declared.words.Mic.{Mic}
use Rattle.krb_spnego_rules.specs.declared.words.Progress.{Progress}
use Rattle.krb_spnego_rules.specs.declared.words.Terms.{Terms}
use Rattle.krb_spnego_rules.specs.declared.words.Decision.{Decision}
use Rattle.krb_spnego_rules.specs.declared.words.Decision.TheVariants.{Wait, Finish, Rest, Refuse}
use Rattle.krb_spnego_rules.specs.declared.mechanism.Turn.{Turn}
use Rattle.krb_spnego_rules.specs.declared.mechanism.Turn.TheVariants as turns
use Rattle.krb_spnego_rules.specs.declared.message.Message.{Message}
use Rattle.krb_spnego_rules.specs.declared.message.Refusal.{Refusal}
use Rattle.krb_spnego_rules.specs.declared.message.Refusal.TheVariants.{OutOfMemory, Broken}
use Rattle.krb_spnego_rules.specs.declared.side.Running.{Running}
use Rattle.krb_spnego_rules.specs.declared.side.Complete.{Complete}
use Rattle.krb_spnego_rules.specs.declared.side.After.{After}
use Rattle.krb_spnego_rules.specs.declared.side.After.TheVariants as afters

-- what a message comes to: the side after it and what it sends, or why it ended the negotiation
abbrev pub Outcome : Type 0 → Type 0
Outcome M = Result (After M × Option Message) Refusal

-- ---- the mechanism's part

-- of the peer's token the context becomes this one, with this turn; an established context takes none
abbrev pub Takes : {M : Type 0} → Meaning M → Bool → M → Option (List ℕ) → M → Turn → Type 0
Takes meaning true before token after turn = (after ≡ before) × (turn ≡ turns.Ends)
Takes meaning false before token after turn = meaning.steps before token after turn

-- this error is no invention: memory failed, or the mechanism refuses the token
abbrev pub IsHindered : {M : Type 0} → Meaning M → Bool → M → Option (List ℕ) → Refusal → Type 0
IsHindered meaning established before token refusal =
    (refusal ≡ OutOfMemory) ⊎ ((established ≡ false) × meaning.refuses before token × (refusal ≡ Broken rules.MechanismFailed))

-- this side's MIC over the list, where one is to be sent
abbrev pub Signs : {M : Type 0} → Meaning M → M → List ℕ → Bool → M → Option (Vec ℕ Global) → Type 0
Signs meaning before list false after own = (after ≡ before) × (own ≡ None)
Signs meaning before list true after own = (mic : Vec ℕ Global) × ((own ≡ Some mic) × meaning.makes before list mic.items after)

-- ---- sides

abbrev pub with_context : {M : Type 0} → Running M → M → Running M
with_context side context =
    record { mechanism = context; name = side.name; established = side.established; terms = side.terms; list = side.list }

-- a side that waits, after it sent its MIC or did not
abbrev pub waiting : {M : Type 0} → Running M → M → Progress → Bool → Running M
waiting side context progress mic =
    record {
      mechanism = context;
      name = side.name;
      established = not (continues progress);
      terms = record { preferred = side.terms.preferred; required = side.terms.required; sent = side.terms.sent || mic };
      list = side.list;
    }

-- a side that is complete, by the peer's MIC or without
abbrev pub completed : {M : Type 0} → Running M → M → Mic → Complete M
completed side context mic =
    record { mechanism = context; name = side.name; terms = side.terms; by_mic = is_held mic; list = side.list }

-- negState of a message of a side that waits: request-mic in the acceptor's first message, where MICs have to be exchanged
abbrev pub waiting_state : Bool → Bool → NegState
waiting_state true true = RequestMic
waiting_state true false = AcceptIncomplete
waiting_state false required = AcceptIncomplete

abbrev pub saying : NegState → Option (Vec ℕ Global) → Option (Vec ℕ Global) → Option (Vec ℕ Global) → Message
saying state named token mic = record { state = Some state; mechanism = named; token = token; mic = mic }

-- ---- what follows a decision

-- the last message of a side, with its MIC or without
abbrev pub Finishes : {M : Type 0} → Meaning M → Running M → Turn → Mic → Option (Vec ℕ Global) → Bool → After M × Option Message → Type 0
Finishes meaning side turn sight named mic out =
    (context : _) × ((own : Option (Vec ℕ Global)) × (Signs meaning side.mechanism side.list.items mic context own
    × (out ≡ (afters.Complete (completed side context sight), Some (saying AcceptCompleted named (token_in turn) own)))))

-- a message of a side that waits, with its MIC or without
abbrev pub Waits : {M : Type 0} → Meaning M → Running M → Turn → Option (Vec ℕ Global) → Bool → After M × Option Message → Type 0
Waits meaning side turn named mic out =
    (context : _) × ((own : Option (Vec ℕ Global)) × (Signs meaning side.mechanism side.list.items mic context own
    × (out ≡ (
      afters.Running (waiting side context (progress_in turn) mic),
      Some (saying (waiting_state (is_some named) side.terms.required) named (token_in turn) own),
    ))))

abbrev pub Does : {M : Type 0} → Meaning M → Running M → Turn → Mic → Option (Vec ℕ Global) → Decision → Outcome M → Type 0
Does meaning side turn sight named (Refuse rule) out = out ≡ Err (Broken rule)
Does meaning side turn sight named Rest out = out ≡ Ok (afters.Complete (completed side side.mechanism sight), None)
Does meaning side turn sight named (Finish mic) out = (sent : _) × (Finishes meaning side turn sight named mic sent × (out ≡ Ok sent))
Does meaning side turn sight named (Wait mic) out = (sent : _) × (Waits meaning side turn named mic sent × (out ≡ Ok sent))

abbrev pub decides : Role → Terms → Bool → Progress → Option NegState → Mic → Decision
decides Initiator terms first progress state mic = initiator_does terms progress state mic
decides Acceptor terms first progress state mic = acceptor_does terms first progress state mic

-- ---- a message that breaks no rule so far. `named` is the mechanism that the answer names, in the acceptor's first one.

abbrev pub Answers : {M : Type 0} → Meaning M → Role → Running M → Turn → Option (Vec ℕ Global) → Option NegState → Option (List ℕ) → Outcome M → Type 0
Answers meaning role side turn named state came out =
    (sight : Mic) × (IsSeen (meaning.holds side.mechanism side.list.items) came (progress_in turn) sight
    × Does meaning side turn sight named (decides role side.terms (is_some named) (progress_in turn) state sight) out)

abbrev pub GoesOn : {M : Type 0} → Meaning M → Role → Running M → Option (Vec ℕ Global) → Option NegState → Option (List ℕ) → Option (List ℕ)
    → Outcome M → Type 0
GoesOn meaning role side named state token came out =
    (out ≡ Err OutOfMemory)
    ⊎ (((side.established ≡ false) × (meaning.refuses side.mechanism token × (out ≡ Err (Broken rules.MechanismFailed))))
    ⊎ ((context : _) × ((turn : Turn) × (Takes meaning side.established side.mechanism token context turn
    × Answers meaning role (with_context side context) turn named state came out))))

-- ---- a message after the first two

abbrev pub LaterBy : {M : Type 0} → Meaning M → Role → Running M → Message → Result (Unit {0}) Rule → Outcome M → Type 0
LaterBy meaning role side message (Err rule) out = out ≡ Err (Broken rule)
LaterBy meaning role side message (Ok u) out =
    GoesOn meaning role side None message.state (items_in message.token) (items_in message.mic) out

abbrev pub Later : {M : Type 0} → Meaning M → Role → Running M → Message → Outcome M → Type 0
Later meaning role side message out = LaterBy meaning role side message (after_later (reply_in message) side.established) out
