-- A call by which a side makes a step (RFC 4178, 3.2, 4.2 and 5): the step of krb_spnego, by what the caller tells of the mechanisms.
use Rattle.std.specs.Prelude.{◌≡◌, ◌⊎◌, ◌==◌, ℕ, List, [], Option, Some, None, Result, Ok, Err, Vec, is_some, if◌then◌else◌}
use Rattle.std.specs.declared.alloc.Global.{Global}
use Rattle.krb_c_calls.specs.Handing.{IsPut, IsRefused}
use Rattle.krb_c_calls.specs.declared.call_error.CallError.{CallError}
use Rattle.krb_c_calls.specs.declared.call_error.CallError.TheVariants as calls
use Rattle.krb_der_core.specs.declared.der.DerEncode.{Ghosts as EncodingOf}
use Rattle.krb_gss_tokens.specs.declared.spnego.GssApiNegInit.{GssApiNegInit}
use Rattle.krb_gss_tokens.specs.declared.spnego.NegTokenTarg.{NegTokenTarg}
use Rattle.krb_spnego.specs.Answering.{AcceptorAnswers, InitiatorAnswers}
use Rattle.krb_spnego.specs.declared.answering.Answered.{Answered}
use Rattle.krb_spnego.specs.declared.answering.Answered.TheVariants.{LacksMic, Stands}
use Rattle.krb_spnego.specs.declared.told.Told.{Told}
use Rattle.krb_spnego_rules.specs.Fields.{items_in}
use Rattle.krb_spnego_rules.specs.declared.acceptor.Acceptor.{Acceptor}
use Rattle.krb_spnego_rules.specs.declared.initiator.Initiator.{Initiator}
use Rattle.krb_spnego_rules.specs.declared.words.Role.{Role}
use Rattle.krb_spnego_rules.specs.declared.words.Role.TheVariants as roles
use Rattle.krb_c_negotiation.specs.Mechanisms.{AreMechanisms, RefusesMechanisms, Words, told_mic}
use Rattle.krb_c_negotiation.specs.Numbers.{flag, role_in}
use Rattle.krb_c_negotiation.specs.Sides.{IsAcceptorOf, IsInitiatorOf, RefusesAcceptor, RefusesInitiator, acceptor_after, initiator_after}
use Rattle.krb_c_negotiation.specs.declared.records.AnswerRecord.{AnswerRecord}
use Rattle.krb_c_negotiation.specs.declared.records.NegotiationRecord.{NegotiationRecord}
use Rattle.krb_c_negotiation.specs.declared.step.Step.{Step}

-- the token of the mechanism that refused, where it has one that says why
abbrev pub told_error : Words → Option (List ℕ)
told_error tale = if tale.progress == 3 then told_mic tale.token else None

-- what is sent, and whether
abbrev pub octets_in : Option (Vec ℕ Global) → List ℕ
octets_in None = []
octets_in (Some octets) = octets.items

abbrev pub answer_of : Option (Vec ℕ Global) → AnswerRecord
answer_of sent = record { lacks_mic = 0; sends = flag (is_some sent) }

-- the mechanism's own MIC has to be told: no step is made
pub record IsWithoutMic (side : NegotiationRecord) (step : Step) : Type 0 where
  pub unchanged : step.side ≡ side
  pub says : step.answer ≡ record { lacks_mic = 1; sends = 0 }
  pub nothing : step.octets.items ≡ []

-- this side is the one after the step, and this is sent
pub record IsWith (side : NegotiationRecord) (sent : Option (Vec ℕ Global)) (step : Step) : Type 0 where
  pub side_is : step.side ≡ side
  pub says : step.answer ≡ answer_of sent
  pub octets : step.octets.items ≡ octets_in sent

-- ---- an acceptor

abbrev pub IsAcceptorAnswer : NegotiationRecord → Answered (Acceptor Told) → Step → Type 0
IsAcceptorAnswer side LacksMic step = IsWithoutMic side step
IsAcceptorAnswer side (Stands after sent) step = IsWith (acceptor_after side after) sent step

abbrev pub AcceptorMakes : EncodingOf GssApiNegInit → EncodingOf (List (List ℕ)) → EncodingOf NegTokenTarg → NegotiationRecord → Acceptor Told → Words
    → List ℕ → Step → Type 0
AcceptorMakes o l t side acceptor tale octets step =
    (error : Option (Vec ℕ Global)) × ((items_in error ≡ told_error tale)
    × ((answered : Answered (Acceptor Told)) × (AcceptorAnswers o l t acceptor octets error answered × IsAcceptorAnswer side answered step)))

-- the acceptor of these numbers makes its step
abbrev pub IsAcceptorStep : EncodingOf GssApiNegInit → EncodingOf (List (List ℕ)) → EncodingOf NegTokenTarg → EncodingOf (List (List (List ℕ)))
    → NegotiationRecord → Words → List ℕ → Step → Type 0
IsAcceptorStep o l t n side tale octets step =
    (mechanisms : Vec Told Global) × (AreMechanisms n side tale mechanisms
    × ((acceptor : Acceptor Told) × (IsAcceptorOf side mechanisms tale.list acceptor × AcceptorMakes o l t side acceptor tale octets step)))

abbrev pub RefusesAcceptorStep : EncodingOf (List (List (List ℕ))) → NegotiationRecord → Words → CallError → Type 0
RefusesAcceptorStep n side tale e =
    (e ≡ calls.Memory)
    ⊎ (RefusesMechanisms n tale e
    ⊎ ((mechanisms : Vec Told Global) × (AreMechanisms n side tale mechanisms × RefusesAcceptor side mechanisms.items e)))

-- ---- an initiator

abbrev pub IsInitiatorAnswer : NegotiationRecord → Answered (Initiator Told) → Step → Type 0
IsInitiatorAnswer side LacksMic step = IsWithoutMic side step
IsInitiatorAnswer side (Stands after sent) step = IsWith (initiator_after side after) sent step

abbrev pub InitiatorMakes : EncodingOf NegTokenTarg → NegotiationRecord → Initiator Told → Words → List ℕ → Step → Type 0
InitiatorMakes t side initiator tale octets step =
    (error : Option (Vec ℕ Global)) × ((items_in error ≡ told_error tale)
    × ((answered : Answered (Initiator Told)) × (InitiatorAnswers t initiator octets error answered × IsInitiatorAnswer side answered step)))

abbrev pub IsInitiatorStep : EncodingOf NegTokenTarg → EncodingOf (List (List (List ℕ))) → NegotiationRecord → Words → List ℕ → Step → Type 0
IsInitiatorStep t n side tale octets step =
    (mechanisms : Vec Told Global) × (AreMechanisms n side tale mechanisms
    × ((initiator : Initiator Told) × (IsInitiatorOf side mechanisms.items tale.list initiator × InitiatorMakes t side initiator tale octets step)))

abbrev pub RefusesInitiatorStep : EncodingOf (List (List (List ℕ))) → NegotiationRecord → Words → CallError → Type 0
RefusesInitiatorStep n side tale e =
    (e ≡ calls.Memory)
    ⊎ (RefusesMechanisms n tale e
    ⊎ ((mechanisms : Vec Told Global) × (AreMechanisms n side tale mechanisms × RefusesInitiator side mechanisms.items e)))

-- ---- either

abbrev pub IsStepBy : Result Role CallError → EncodingOf GssApiNegInit → EncodingOf (List (List ℕ)) → EncodingOf NegTokenTarg
    → EncodingOf (List (List (List ℕ))) → NegotiationRecord → Words → List ℕ → Step → Type 0
IsStepBy (Err e) o l t n side tale octets step = ⊥
IsStepBy (Ok roles.Initiator) o l t n side tale octets step = IsInitiatorStep t n side tale octets step
IsStepBy (Ok roles.Acceptor) o l t n side tale octets step = IsAcceptorStep o l t n side tale octets step

abbrev pub IsStep : EncodingOf GssApiNegInit → EncodingOf (List (List ℕ)) → EncodingOf NegTokenTarg → EncodingOf (List (List (List ℕ)))
    → NegotiationRecord → Words → List ℕ → Step → Type 0
IsStep o l t n side tale octets step = IsStepBy (role_in side.role) o l t n side tale octets step

abbrev pub RefusesStepBy : Result Role CallError → EncodingOf (List (List (List ℕ))) → NegotiationRecord → Words → CallError → Type 0
RefusesStepBy (Err e) n side tale refusal = refusal ≡ e
RefusesStepBy (Ok roles.Initiator) n side tale refusal = RefusesInitiatorStep n side tale refusal
RefusesStepBy (Ok roles.Acceptor) n side tale refusal = RefusesAcceptorStep n side tale refusal

abbrev pub RefusesStep : EncodingOf (List (List (List ℕ))) → NegotiationRecord → Words → CallError → Type 0
RefusesStep n side tale refusal = RefusesStepBy (role_in side.role) n side tale refusal

-- ---- the call

-- what the caller's places hold
pub record Places : Type 0 where
  pub side : NegotiationRecord
  pub told : AnswerRecord
  pub out : List ℕ

-- where all octets fit, the caller has the side after the step, and what is told of it
abbrev pub IsHandedOver : Step → Places → Places → ℕ → Type 0
IsHandedOver step before after status =
    ((status ≡ 0) × ((after.side ≡ step.side) × (after.told ≡ step.answer)))
    ⊎ ((status ≡ 1) × ((after.side ≡ before.side) × (after.told ≡ before.told)))

abbrev pub IsAnswer : EncodingOf GssApiNegInit → EncodingOf (List (List ℕ)) → EncodingOf NegTokenTarg → EncodingOf (List (List (List ℕ))) → Words
    → List ℕ → Places → Places → ℕ → ℕ → Type 0
IsAnswer o l t n tale octets before after size status =
    ((step : Step) × (IsStep o l t n before.side tale octets step
    × (IsPut step.octets.items before.out after.out size status × IsHandedOver step before after status)))
    ⊎ ((e : CallError) × (RefusesStep n before.side tale e
    × (IsRefused e before.out after.out size status × ((after.side ≡ before.side) × (after.told ≡ before.told)))))
