-- A step by what is told of the mechanisms (RFC 4178, 3.2, 4.2 and 5): the step of the machine, and the message that rejects where it ends the negotiation.
use Rattle.std.specs.Prelude.{◌≡◌, ◌⊎◌, ℕ, List, Bool, true, false, Option, Some, None, Result, Ok, Err, Vec, is_some, if◌then◌else◌}
use Rattle.std.specs.declared.alloc.Global.{Global}
use Rattle.krb_der_core.specs.declared.der.DerEncode.{Ghosts as EncodingOf}
use Rattle.krb_gss_tokens.specs.declared.spnego.GssApiNegInit.{GssApiNegInit}
use Rattle.krb_gss_tokens.specs.declared.spnego.NegTokenTarg.{NegTokenTarg}
use Rattle.krb_spnego_rules.specs.AcceptorSteps.{name_at, rank_in, takes_bare}
use Rattle.krb_spnego_rules.specs.Fields.{items_in}
use Rattle.krb_spnego_rules.specs.declared.acceptor.Acceptor.{Acceptor}
use Rattle.krb_spnego_rules.specs.declared.acceptor.Acceptor.TheVariants as acceptors
use Rattle.krb_spnego_rules.specs.declared.acceptor.Fresh.{Fresh}
use Rattle.krb_spnego_rules.specs.declared.initiator.Initiator.{Initiator}
use Rattle.krb_spnego_rules.specs.declared.initiator.Initiator.TheVariants as initiators
use Rattle.krb_spnego_rules.specs.declared.message.Message.{Message}
use Rattle.krb_spnego_rules.specs.declared.message.Proposal.{Proposal}
use Rattle.krb_spnego_rules.specs.declared.message.Refusal.{Refusal}
use Rattle.krb_spnego_rules.specs.declared.message.Refusal.TheVariants.{OutOfMemory, Broken}
use Rattle.krb_spnego_rules.specs.declared.words.NegState.TheVariants.{Reject}
use Rattle.krb_spnego_rules.specs.declared.words.Rule.TheVariants as rules
use Rattle.krb_spnego.specs.Reading.{ReadsOffer, RejectsOffer}
use Rattle.krb_spnego.specs.Taking.{AcceptorTakes, InitiatorTakes, Taken, Writes}
use Rattle.krb_spnego.specs.Told.{told_meaning}
use Rattle.krb_spnego.specs.declared.answering.Answered.{Answered}
use Rattle.krb_spnego.specs.declared.answering.Answered.TheVariants.{LacksMic, Stands}
use Rattle.krb_spnego.specs.declared.error.ReadError.{ReadError}
use Rattle.krb_spnego.specs.declared.error.ReadError.TheVariants as errors
use Rattle.krb_spnego.specs.declared.told.Told.{Told}

-- ---- a side

-- why it ended the negotiation, if it did
abbrev pub acceptor_refusal : Acceptor Told → Option Refusal
acceptor_refusal (acceptors.Failed refusal) = Some refusal
acceptor_refusal (acceptors.Fresh side) = None
acceptor_refusal (acceptors.Running side) = None
acceptor_refusal (acceptors.Complete side) = None
acceptor_refusal (acceptors.Bare side) = None

abbrev pub initiator_refusal : Initiator Told → Option Refusal
initiator_refusal (initiators.Failed refusal) = Some refusal
initiator_refusal (initiators.Offered side) = None
initiator_refusal (initiators.Running side) = None
initiator_refusal (initiators.Complete side) = None

-- its mechanism was asked for a MIC, and none was told
abbrev pub acceptor_lacks_mic : Acceptor Told → Bool
acceptor_lacks_mic (acceptors.Running side) = side.mechanism.lacks_mic
acceptor_lacks_mic (acceptors.Complete side) = side.mechanism.lacks_mic
acceptor_lacks_mic (acceptors.Failed refusal) = false
acceptor_lacks_mic (acceptors.Fresh side) = false
acceptor_lacks_mic (acceptors.Bare side) = false

abbrev pub initiator_lacks_mic : Initiator Told → Bool
initiator_lacks_mic (initiators.Running side) = side.mechanism.lacks_mic
initiator_lacks_mic (initiators.Complete side) = side.mechanism.lacks_mic
initiator_lacks_mic (initiators.Failed refusal) = false
initiator_lacks_mic (initiators.Offered side) = false

-- ---- the message that rejects (4.2.2)

-- nothing is said to a peer that rejected, or that sends a message after the end
abbrev pub is_quiet : Refusal → Bool
is_quiet (Broken rules.Rejected) = true
is_quiet (Broken rules.Finished) = true
is_quiet other = false

abbrev pub is_mechanisms : Refusal → Bool
is_mechanisms (Broken rules.MechanismFailed) = true
is_mechanisms other = false

-- the mechanism's token that says why, where it is the mechanism that refused
abbrev pub told_token : Refusal → Option (Vec ℕ Global) → Option (Vec ℕ Global)
told_token refusal error = if is_mechanisms refusal then error else None

-- with this token, and the mechanism's name beside one
abbrev pub reject_of : Option (Vec ℕ Global) → Option (Vec ℕ Global) → Message
reject_of token name = record { state = Some Reject; mechanism = (if is_some token then name else None); token = token; mic = None }

abbrev pub RejectsBy : EncodingOf NegTokenTarg → Bool → Bool → Option (Vec ℕ Global) → Option (Vec ℕ Global) → Option (Vec ℕ Global) → Type 0
RejectsBy t true bare token name out = out ≡ None
RejectsBy t false true token name out = out ≡ token
RejectsBy t false false token name out = Writes t (Some (reject_of token name)) out

abbrev pub IsRejection : EncodingOf NegTokenTarg → Refusal → Bool → Option (Vec ℕ Global) → Option (Vec ℕ Global) → Option (Vec ℕ Global) → Type 0
IsRejection t refusal bare error name out = RejectsBy t (is_quiet refusal) bare (told_token refusal error) name out

-- ---- what is sent after a step: its answer; or, where it ended the negotiation, and the side had not failed before, what rejects

abbrev pub IsEndBy : EncodingOf NegTokenTarg → Bool → Refusal → Bool → Option (Vec ℕ Global) → Option (Vec ℕ Global) → Option (Vec ℕ Global) → Type 0
IsEndBy t true refusal bare error name out = out ≡ None
IsEndBy t false refusal bare error name out = IsRejection t refusal bare error name out

abbrev pub IsEnd : EncodingOf NegTokenTarg → Option Refusal → Bool → Bool → Option (Vec ℕ Global) → Option (Vec ℕ Global) → Option (Vec ℕ Global) → Type 0
IsEnd t None failed bare error name out = out ≡ None
IsEnd t (Some OutOfMemory) failed bare error name out = ⊥
IsEnd t (Some refusal) failed bare error name out = IsEndBy t failed refusal bare error name out

abbrev pub Tells : EncodingOf NegTokenTarg → Result (Option (Vec ℕ Global)) ReadError → Option Refusal → Bool → Bool → Option (Vec ℕ Global)
    → Option (Vec ℕ Global) → Option (Vec ℕ Global) → Type 0
Tells t (Ok (Some octets)) refusal failed bare error name out = out ≡ Some octets
Tells t (Err errors.OutOfMemory) refusal failed bare error name out = ⊥
Tells t other refusal failed bare error name out = IsEnd t refusal failed bare error name out

-- ---- the name that an acceptor takes of an offer

-- the list's first name that names one of the mechanisms
abbrev pub taken_name : List Told → Proposal → Option (List ℕ)
taken_name mechanisms proposal =
    items_in (name_at (rank_in told_meaning mechanisms proposal.mechanisms.items) proposal.mechanisms.items)

abbrev pub IsNameInOffer : EncodingOf GssApiNegInit → EncodingOf (List (List ℕ)) → Fresh Told → List ℕ → Option (Vec ℕ Global) → Type 0
IsNameInOffer o l side octets name =
    ((e : ReadError) × (RejectsOffer o octets e × ((e ≡ errors.OutOfMemory → ⊥) × (name ≡ None))))
    ⊎ ((proposal : Proposal) × (ReadsOffer o l octets proposal × (items_in name ≡ taken_name side.mechanisms.items proposal)))

abbrev pub IsNameTaken : EncodingOf GssApiNegInit → EncodingOf (List (List ℕ)) → Acceptor Told → List ℕ → Option (Vec ℕ Global) → Type 0
IsNameTaken o l (acceptors.Fresh side) octets name = IsNameInOffer o l side octets name
IsNameTaken o l (acceptors.Running side) octets name = name ≡ None
IsNameTaken o l (acceptors.Complete side) octets name = name ≡ None
IsNameTaken o l (acceptors.Bare side) octets name = name ≡ None
IsNameTaken o l (acceptors.Failed refusal) octets name = name ≡ None

-- it is told beside a token that says why
abbrev pub IsGivenName : EncodingOf GssApiNegInit → EncodingOf (List (List ℕ)) → Option (Vec ℕ Global) → Acceptor Told → List ℕ → Option (Vec ℕ Global) → Type 0
IsGivenName o l None side octets name = name ≡ None
IsGivenName o l (Some error) side octets name = IsNameTaken o l side octets name

-- ---- a step of the machine, by what is told; where its own MIC lacks, no step

abbrev pub AcceptorAnswers : EncodingOf GssApiNegInit → EncodingOf (List (List ℕ)) → EncodingOf NegTokenTarg → Acceptor Told → List ℕ
    → Option (Vec ℕ Global) → Answered (Acceptor Told) → Type 0
AcceptorAnswers o l t side octets error LacksMic =
    (stepped : Taken (Acceptor Told)) × (AcceptorTakes o l t told_meaning side octets stepped × (acceptor_lacks_mic stepped.0 ≡ true))
AcceptorAnswers o l t side octets error (Stands after out) =
    (sent : Result (Option (Vec ℕ Global)) ReadError) × (AcceptorTakes o l t told_meaning side octets (after, sent)
    × ((acceptor_lacks_mic after ≡ false)
    × ((name : Option (Vec ℕ Global)) × (IsGivenName o l error side octets name
    × Tells t sent (acceptor_refusal after) (is_some (acceptor_refusal side)) (takes_bare told_meaning side octets) error name out))))

abbrev pub InitiatorAnswers : EncodingOf NegTokenTarg → Initiator Told → List ℕ → Option (Vec ℕ Global) → Answered (Initiator Told) → Type 0
InitiatorAnswers t side octets error LacksMic =
    (stepped : Taken (Initiator Told)) × (InitiatorTakes t told_meaning side octets stepped × (initiator_lacks_mic stepped.0 ≡ true))
InitiatorAnswers t side octets error (Stands after out) =
    (sent : Result (Option (Vec ℕ Global)) ReadError) × (InitiatorTakes t told_meaning side octets (after, sent)
    × ((initiator_lacks_mic after ≡ false)
    × Tells t sent (initiator_refusal after) (is_some (initiator_refusal side)) false error None out))
