-- What a side makes of octets (RFC 4178, 3.2 and 4.2), exactly: the message that they are, the step of the rules, and the octets of the answer.
use Rattle.std.specs.Prelude.{◌≡◌, ◌⊎◌, ℕ, List, Bool, true, false, Option, Some, None, Result, Ok, Err, Vec, is_some}
use Rattle.std.specs.declared.alloc.Global.{Global}
use Rattle.krb_der_core.specs.declared.der.DerEncode.{Ghosts as EncodingOf}
use Rattle.krb_gss_tokens.specs.declared.spnego.GssApiNegInit.{GssApiNegInit}
use Rattle.krb_gss_tokens.specs.declared.spnego.NegTokenTarg.{NegTokenTarg}
use Rattle.krb_spnego_rules.specs.AcceptorSteps.{AcceptorIsOffered, AcceptorSteps, AcceptorTakesBare, ended, takes_bare}
use Rattle.krb_spnego_rules.specs.InitiatorSteps.{InitiatorSteps, unread_initiator}
use Rattle.krb_spnego_rules.specs.Meaning.{Meaning}
use Rattle.krb_spnego_rules.specs.declared.acceptor.Acceptor.{Acceptor}
use Rattle.krb_spnego_rules.specs.declared.acceptor.Acceptor.TheVariants as acceptors
use Rattle.krb_spnego_rules.specs.declared.initiator.Initiator.{Initiator}
use Rattle.krb_spnego_rules.specs.declared.initiator.Initiator.TheVariants as initiators
use Rattle.krb_spnego_rules.specs.declared.message.Message.{Message}
use Rattle.krb_spnego_rules.specs.declared.message.Refusal.TheVariants as refusals
use Rattle.krb_spnego.specs.Reading.{IsWritten, ReadsOffer, ReadsReply, RejectsOffer, RejectsReply}
use Rattle.krb_spnego.specs.declared.error.ReadError.{ReadError}
use Rattle.krb_spnego.specs.declared.error.ReadError.TheVariants as errors

-- a side after octets, and what it answers, or why the octets were no message
abbrev pub Taken : Type 0 → Type 0
Taken S = S × Result (Option (Vec ℕ Global)) ReadError

-- the octets of an answer, if there is one, are the encoding of a NegTokenResp that says just this
abbrev pub Writes : EncodingOf NegTokenTarg → Option Message → Option (Vec ℕ Global) → Type 0
Writes t None None = Unit {0}
Writes t (Some message) (Some octets) = IsWritten t message octets.items
Writes t None (Some octets) = ⊥
Writes t (Some message) None = ⊥

-- a step of the rules was made: its answer is written, or memory for it was wanting, and the side has failed
abbrev pub Sends : {S : Type 0} → EncodingOf NegTokenTarg → S × Option Message → S → Taken S → Type 0
Sends t stepped failed result =
    ((is_some stepped.1 ≡ true) × (result ≡ (failed, Err errors.OutOfMemory)))
    ⊎ ((octets : Option (Vec ℕ Global)) × (Writes t stepped.1 octets × (result ≡ (stepped.0, Ok octets))))

-- octets that `rejects` names are none, and the side is `unread`; of a message that `reads` names, a step is made
abbrev pub Takes : {S Q : Type 0} → (Q → Type 0) → (ReadError → Type 0) → (Q → S × Option Message → Type 0) → EncodingOf NegTokenTarg → S → S → Taken S
    → Type 0
Takes reads rejects steps t unread failed result =
    ((e : ReadError) × (rejects e × (result ≡ (unread, Err e))))
    ⊎ ((message : _) × (reads message × ((stepped : _) × (steps message stepped × Sends t stepped failed result))))

-- ---- an initiator

abbrev pub InitiatorTakes : {M : Type 0} → EncodingOf NegTokenTarg → Meaning M → Initiator M → List ℕ → Taken (Initiator M) → Type 0
InitiatorTakes t meaning side octets result =
    Takes (ReadsReply t octets) (RejectsReply t octets) (InitiatorSteps meaning side) t (unread_initiator side) (initiators.Failed refusals.OutOfMemory) result

-- ---- an acceptor

abbrev pub TakesOffer : {M : Type 0} → EncodingOf GssApiNegInit → EncodingOf (List (List ℕ)) → EncodingOf NegTokenTarg → Meaning M → Acceptor M → List ℕ
    → Taken (Acceptor M) → Type 0
TakesOffer o l t meaning side octets result =
    Takes (ReadsOffer o l octets) (RejectsOffer o octets) (AcceptorIsOffered meaning side) t (ended side) (acceptors.Failed refusals.OutOfMemory) result

abbrev pub TakesReply : {M : Type 0} → EncodingOf NegTokenTarg → Meaning M → Acceptor M → List ℕ → Taken (Acceptor M) → Type 0
TakesReply t meaning side octets result =
    Takes (ReadsReply t octets) (RejectsReply t octets) (AcceptorSteps meaning side) t (ended side) (acceptors.Failed refusals.OutOfMemory) result

-- no token came
abbrev pub is_fresh_side : {M : Type 0} → Acceptor M → Bool
is_fresh_side (acceptors.Fresh side) = true
is_fresh_side (acceptors.Running side) = false
is_fresh_side (acceptors.Complete side) = false
is_fresh_side (acceptors.Bare side) = false
is_fresh_side (acceptors.Failed refusal) = false

-- a mechanism's own token, with no negotiation around it
abbrev pub TakesBare : {M : Type 0} → Meaning M → Acceptor M → List ℕ → Taken (Acceptor M) → Type 0
TakesBare meaning side octets result =
    (stepped : Acceptor _ × Option (Vec ℕ Global)) × (AcceptorTakesBare meaning side octets stepped × (result ≡ (stepped.0, Ok stepped.1)))

-- whether a mechanism takes the octets as its own; the first message is an offer, and each later one a reply
abbrev pub AcceptorTakesBy : {M : Type 0} → Bool → Bool → EncodingOf GssApiNegInit → EncodingOf (List (List ℕ)) → EncodingOf NegTokenTarg → Meaning M
    → Acceptor M → List ℕ → Taken (Acceptor M) → Type 0
AcceptorTakesBy true fresh o l t meaning side octets result = TakesBare meaning side octets result
AcceptorTakesBy false true o l t meaning side octets result = TakesOffer o l t meaning side octets result
AcceptorTakesBy false false o l t meaning side octets result = TakesReply t meaning side octets result

abbrev pub AcceptorTakes : {M : Type 0} → EncodingOf GssApiNegInit → EncodingOf (List (List ℕ)) → EncodingOf NegTokenTarg → Meaning M → Acceptor M → List ℕ
    → Taken (Acceptor M) → Type 0
AcceptorTakes o l t meaning side octets result =
    AcceptorTakesBy (takes_bare meaning side octets) (is_fresh_side side) o l t meaning side octets result
