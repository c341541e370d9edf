-- Two honest engines over contexts that fit together (RFC 4178, 5): nobody is between them.
use Rattle.std.specs.Prelude.{◌≡◌, ◌==◌, ◌||◌, not, is_some, slice_get, ℕ, zero, suc, List, Bool, true, false, Option, Some, None, Ok, Err, Vec}
use Rattle.std.specs.declared.alloc.Global.{Global}
use Rattle.krb_spnego_rules.specs.AcceptorSteps.{IsOffered, named_in, rank_in}
use Rattle.krb_spnego_rules.specs.Decisions.{continues}
use Rattle.krb_spnego_rules.specs.Fields.{items_in}
use Rattle.krb_spnego_rules.specs.InitiatorSteps.{Replied, picks}
use Rattle.krb_spnego_rules.specs.Meaning.{Meaning}
use Rattle.krb_spnego_rules.specs.Runs.{Note, Side, left_after, other_role, progress_of, sends_token}
use Rattle.krb_spnego_rules.specs.Steps.{Later, Outcome}
use Rattle.krb_spnego_rules.specs.Turns.{progress_in, token_in}
use Rattle.krb_spnego_rules.specs.declared.acceptor.Fresh.{Fresh}
use Rattle.krb_spnego_rules.specs.declared.initiator.Offered.{Offered}
use Rattle.krb_spnego_rules.specs.declared.message.Proposal.{Proposal}
use Rattle.krb_spnego_rules.specs.declared.words.Choice.{Choice}
use Rattle.krb_spnego_rules.specs.declared.words.Choice.TheVariants as choices
use Rattle.krb_spnego_rules.specs.declared.words.NegState.{NegState}
use Rattle.krb_spnego_rules.specs.declared.words.Role.{Role}
use Rattle.krb_spnego_rules.specs.declared.words.Role.TheVariants as roles
use Rattle.krb_spnego_rules.specs.declared.mechanism.Turn.{Turn}
use Rattle.krb_spnego_rules.specs.declared.message.Message.{Message}
use Rattle.krb_spnego_rules.specs.declared.message.Refusal.TheVariants.{OutOfMemory}
use Rattle.krb_spnego_rules.specs.declared.side.Running.{Running}
use Rattle.krb_spnego_rules.specs.declared.side.Complete.{Complete}
use Rattle.krb_spnego_rules.specs.declared.side.After.{After}
use Rattle.krb_spnego_rules.specs.declared.side.After.TheVariants as afters

-- ---- contexts that fit together

-- a context has something to do: a token came, or some are still to be sent
abbrev pub Goes : ℕ → Option (List ℕ) → Type 0
Goes left token = (is_some token || sends_token left) ≡ true

-- Where so many tokens are still to be sent, the next one by X, to which this token of Y came: `at_x left token x y`; `at_y` is the same where it is Y's
-- turn. This is what X owes the pair: it refuses no token of Y; after so many tokens it is established; a MIC of its own changes nothing of that; and it
-- verifies a MIC that Y made last, once both are established. Of a context at rest, to which no token comes, no step is asked.
pub record IsHalf {X Y : Type 0} (mine : Meaning X) (theirs : Meaning Y) (at_x at_y : ℕ → Option (List ℕ) → X → Y → Type 0) : Type 0 where
  pub takes : (left : ℕ) (token : Option (List ℕ)) (x : X) (y : Y) → Goes left token → at_x left token x y → mine.refuses x token → ⊥
  pub turns : (left : ℕ) (token : Option (List ℕ)) (x : X) (y : Y) (after : X) (turn : Turn) → Goes left token → at_x left token x y
      → mine.steps x token after turn
      → (progress_in turn ≡ progress_of left) × at_y (left_after left) (items_in (token_in turn)) after y
  pub rests : (x : X) (y : Y) → at_x zero None x y → at_y zero None x y
  pub makes : (left : ℕ) (token : Option (List ℕ)) (x : X) (y : Y) (text mic : List ℕ) (after : X) → at_y left token x y
      → mine.makes x text mic after → at_y left token after y
  pub verifies : (x : X) (y before : Y) (text mic : List ℕ) → theirs.makes before text mic y → at_y zero None x y → mine.holds x text mic

abbrev pub flipped : {X Y : Type 0} → (ℕ → Option (List ℕ) → X → Y → Type 0) → ℕ → Option (List ℕ) → Y → X → Type 0
flipped at left token y x = at left token x y

pub record IsPair {X Y : Type 0} (mine : Meaning X) (theirs : Meaning Y) (at_x at_y : ℕ → Option (List ℕ) → X → Y → Type 0) : Type 0 where
  pub x_half : IsHalf mine theirs at_x at_y
  pub y_half : IsHalf theirs mine (flipped at_y) (flipped at_x)

-- ---- what follows

-- both are complete, under one name
abbrev pub BothComplete : {X Y : Type 0} → Complete X → After Y → Type 0
BothComplete x (afters.Running y) = ⊥
BothComplete x (afters.Complete y) = x.name.items ≡ y.name.items

-- what a side came to, where `go` says what has to follow the message that it sends to a side that waits
abbrev pub Follows : {X Y : Type 0} → (Running Y → After X → Message → Type 0) → After Y → Outcome X → Type 0
Follows go y (Err refusal) = refusal ≡ OutOfMemory
Follows go y (Ok (afters.Complete x, None)) = BothComplete x y
Follows go y (Ok (afters.Running x, None)) = ⊥
Follows go (afters.Running y) (Ok (x, Some message)) = go y x message
Follows go (afters.Complete y) (Ok (x, Some message)) = ⊥

-- Whatever a side does with a message that its steps allow, both are complete under one name after at most so many messages, this one among them, or
-- memory failed. `role` is X's, to which the message came.
abbrev pub Ends : ℕ → (X Y : Type 0) → Meaning X → Meaning Y → Role → Running X → After Y → Message → Type 0
Ends zero X Y mine theirs role x y message = ⊥
Ends (suc most) X Y mine theirs role x y message =
    (out : Outcome X) → Later mine role x message out → Follows (λ peer side sent. Ends most Y X theirs mine (other_role role) peer side sent) y out

-- ---- the rules' sides and messages, of the engine's

abbrev pub side_in : {X : Type 0} → Running X → Side
side_in x = record { terms = x.terms; first = false; established = x.established }

abbrev pub note_in : NegState → Option (Vec ℕ Global) → Option (Vec ℕ Global) → Note
note_in state token own = record { state = state; choice = choices.Absent; token = is_some token; mic = is_some own }

abbrev pub list_of : {Y : Type 0} → After Y → List ℕ
list_of (afters.Running y) = y.list.items
list_of (afters.Complete y) = y.list.items

abbrev pub name_of : {Y : Type 0} → After Y → List ℕ
name_of (afters.Running y) = y.name.items
name_of (afters.Complete y) = y.name.items

abbrev pub context_of : {Y : Type 0} → After Y → Y
context_of (afters.Running y) = y.mechanism
context_of (afters.Complete y) = y.mechanism

-- the side that the rules count with, of the peer: what it waits with, if it does
abbrev pub Stands : {Y : Type 0} → Bool → After Y → Side → Type 0
Stands true (afters.Complete y) side = Unit {0}
Stands true (afters.Running y) side = ⊥
Stands false (afters.Running y) side = side ≡ side_in y
Stands false (afters.Complete y) side = ⊥

-- an honest message has come to x: both have one list and one name, their contexts fit together, and a MIC in it is one that y made last
pub record Meets {X Y : Type 0} (theirs : Meaning Y) (at_x : ℕ → Option (List ℕ) → X → Y → Type 0) (x : Running X) (y : After Y) (left : ℕ) (done : Bool)
    (side : Side) (token own : Option (Vec ℕ Global)) (list name : List ℕ) : Type 0 where
  pub x_list : x.list.items ≡ list
  pub x_name : x.name.items ≡ name
  pub y_list : list_of y ≡ list
  pub y_name : name_of y ≡ name
  pub at : at_x left (items_in token) x.mechanism (context_of y)
  pub last : token ≡ None → left ≡ zero
  pub made : (mic : Vec ℕ Global) → own ≡ Some mic → (before : Y) × theirs.makes before list mic.items (context_of y)
  pub stands : Stands done y side

-- ---- the offer and the first reply

-- what has to follow the first reply, where it comes to an initiator with this offer
abbrev pub EndsFromReply : ℕ → (X Y : Type 0) → Meaning X → Meaning Y → Offered X → After Y → Message → Type 0
EndsFromReply zero X Y mine theirs offered y message = ⊥
EndsFromReply (suc most) X Y mine theirs offered y message =
    (out : Outcome X) → Replied mine offered message out → Follows (λ peer side sent. Ends most Y X theirs mine roles.Acceptor peer side sent) y out

abbrev pub AfterOffer : {Y : Type 0} → (After Y → Message → Type 0) → Outcome Y → Type 0
AfterOffer go (Err refusal) = refusal ≡ OutOfMemory
AfterOffer go (Ok (y, None)) = ⊥
AfterOffer go (Ok (y, Some message)) = go y message

-- Whatever both do that their steps allow, both are complete under one name after at most so many messages and the offer, or memory failed.
abbrev pub EndsFromOffer : ℕ → (X Y : Type 0) → Meaning X → Meaning Y → Offered X → Fresh Y → Proposal → Type 0
EndsFromOffer most X Y mine theirs offered fresh proposal =
    (out : Outcome Y) → IsOffered theirs fresh proposal out → AfterOffer (λ y message. EndsFromReply most X Y mine theirs offered y message) out

-- the contexts that both come to: the preferred mechanism's first token is sent with the offer, and another mechanism has still to begin
abbrev pub Starts : {X Y : Type 0} → (ℕ → Option (List ℕ) → X → Y → Type 0) → (ℕ → Option (List ℕ) → X → Y → Type 0) → Bool → ℕ → Option (List ℕ) → X
    → Y → Type 0
Starts at_x at_y true tokens token x y = at_y (left_after tokens) token x y
Starts at_x at_y false tokens token x y = at_x tokens None x y

abbrev pub choice_if : Bool → Choice
choice_if true = choices.Preferred true
choice_if false = choices.Other true

-- An offer comes as it was sent to an acceptor whose rule picks this name, of a mechanism with integrity on both sides, preferred or not.
pub record IsHonestStart {X Y : Type 0} (mine : Meaning X) (theirs : Meaning Y) (at_x at_y : ℕ → Option (List ℕ) → X → Y → Type 0) (preferred : Bool)
    (tokens : ℕ) (offered : Offered X) (fresh : Fresh Y) (proposal : Proposal) (x : X) (y : Y) (name : Vec ℕ Global) : Type 0 where
  pub list : proposal.list.items ≡ offered.list.items
  pub mic : proposal.mic ≡ None
  pub token : is_some proposal.token ≡ true
  pub rank : ℕ
  pub ranked : rank_in theirs fresh.mechanisms.items proposal.mechanisms.items ≡ Some rank
  pub listed : slice_get proposal.mechanisms.items rank ≡ Some name
  pub first : (rank == 0) ≡ preferred
  pub named : named_in theirs fresh.mechanisms.items (Some name) ≡ Some y
  pub integrity : theirs.integrity y ≡ true
  pub picked : picks mine offered.first offered.others.items (Some name.items) ≡ (choice_if preferred, Some x)
  pub established : offered.established ≡ not (continues (progress_of tokens))
  pub starts : Starts at_x at_y preferred tokens (items_in proposal.token) x y
