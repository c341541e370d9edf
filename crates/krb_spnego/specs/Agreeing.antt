-- What octets ask, beside the step of the machine: it fails by the same refusal, or goes on with this mechanism, this token and this MIC.
use Rattle.std.specs.Prelude.{◌≡◌, ◌&&◌, not, Bool, Option, Some, None, Ok, Err, Vec, ℕ, is_some}
use Rattle.std.specs.declared.alloc.Global.{Global}
use Rattle.krb_spnego_rules.specs.AcceptorSteps.{TakesUp, name_at, rank_in}
use Rattle.krb_spnego_rules.specs.Fields.{items_in}
use Rattle.krb_spnego_rules.specs.InitiatorSteps.{GoesOnAs}
use Rattle.krb_spnego_rules.specs.Steps.{GoesOn, Outcome}
use Rattle.krb_spnego_rules.specs.declared.acceptor.Fresh.{Fresh}
use Rattle.krb_spnego_rules.specs.declared.message.Message.{Message}
use Rattle.krb_spnego_rules.specs.declared.message.Proposal.{Proposal}
use Rattle.krb_spnego_rules.specs.declared.side.Running.{Running}
use Rattle.krb_spnego_rules.specs.declared.words.Role.{Role}
use Rattle.krb_spnego_rules.specs.declared.words.Terms.{Terms}
use Rattle.krb_spnego.specs.Asking.{Asked}
use Rattle.krb_spnego.specs.Told.{told_meaning}
use Rattle.krb_spnego.specs.declared.asking.Question.{Question}
use Rattle.krb_spnego.specs.declared.told.Told.{Told}

-- the question is for this mechanism, which steps or not, of this token and this MIC
pub record IsFor (m : Told) (steps : Bool) (token mic : Option (Vec ℕ Global)) (q : Question) : Type 0 where
  pub mechanism : q.mechanism ≡ m.place
  pub steps_is : q.steps ≡ steps
  pub token_is : q.token ≡ token
  pub mic_is : q.mic ≡ mic

-- ---- a later message

abbrev pub LaterAgrees : Role → Running Told → Message → Outcome Told → Asked → Type 0
LaterAgrees role side message out (Err refusal) = out ≡ Err refusal
LaterAgrees role side message out (Ok q) =
    IsFor side.mechanism (not side.established) message.token message.mic q
    × GoesOn told_meaning role side None message.state (items_in message.token) (items_in message.mic) out

-- ---- an offer: its list is the one that MICs are over

abbrev pub offered_name : Fresh Told → Proposal → Option (Vec ℕ Global)
offered_name fresh proposal = name_at (rank_in told_meaning fresh.mechanisms.items proposal.mechanisms.items) proposal.mechanisms.items

abbrev pub OfferAgrees : Option (Vec ℕ Global) → Proposal → Outcome Told → Asked → Type 0
OfferAgrees name proposal out (Err refusal) = out ≡ Err refusal
OfferAgrees name proposal out (Ok q) =
    (m : Told) × ((terms : Terms) × (IsFor m (terms.preferred && is_some proposal.token) proposal.token proposal.mic q
    × ((q.list ≡ Some proposal.list) × TakesUp told_meaning proposal name m terms out)))

-- ---- the first reply

abbrev pub FirstReplyAgrees : Bool → Vec ℕ Global → Message → Outcome Told → Asked → Type 0
FirstReplyAgrees established list message out (Err refusal) = out ≡ Err refusal
FirstReplyAgrees established list message out (Ok q) =
    (m : Told) × ((terms : Terms) × (IsFor m (not (established && terms.preferred)) message.token message.mic q
    × GoesOnAs told_meaning established list message m terms (items_in message.mechanism) out))
