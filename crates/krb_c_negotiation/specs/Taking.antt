-- A call that tells what octets ask of a mechanism (RFC 4178, 3.2, 4.2 and 5).
use Rattle.std.specs.Prelude.{◌≡◌, ◌⊎◌, ◌++◌, ℕ, List, [], length, Option, Some, None, Result, Ok, Err, Vec, is_some}
use Rattle.std.specs.declared.alloc.Global.{Global}
use Rattle.krb_c_calls.specs.Handing.{IsPut, IsRefused}
use Rattle.krb_c_calls.specs.declared.call_error.CallError.{CallError}
use Rattle.krb_der_core.specs.declared.der.DerEncode.{Ghosts as EncodingOf}
use Rattle.krb_gss_tokens.specs.declared.spnego.GssApiNegInit.{GssApiNegInit}
use Rattle.krb_gss_tokens.specs.declared.spnego.NegTokenTarg.{NegTokenTarg}
use Rattle.krb_spnego.specs.Asking.{AcceptorAsks, Asked, InitiatorAsks}
use Rattle.krb_spnego.specs.declared.asking.Question.{Question}
use Rattle.krb_spnego.specs.declared.told.Told.{Told}
use Rattle.krb_spnego_rules.specs.declared.acceptor.Acceptor.{Acceptor}
use Rattle.krb_spnego_rules.specs.declared.initiator.Initiator.{Initiator}
use Rattle.krb_spnego_rules.specs.declared.message.Refusal.{Refusal}
use Rattle.krb_spnego_rules.specs.declared.message.Refusal.TheVariants as refusals
use Rattle.krb_spnego_rules.specs.declared.words.Role.{Role}
use Rattle.krb_spnego_rules.specs.declared.words.Role.TheVariants as roles
use Rattle.krb_c_negotiation.specs.Answering.{RefusesStep, octets_in}
use Rattle.krb_c_negotiation.specs.Mechanisms.{AreMechanisms, Words}
use Rattle.krb_c_negotiation.specs.Numbers.{flag, refusal_number, role_in}
use Rattle.krb_c_negotiation.specs.Sides.{IsAcceptorOf, IsInitiatorOf}
use Rattle.krb_c_negotiation.specs.declared.records.NegotiationRecord.{NegotiationRecord}
use Rattle.krb_c_negotiation.specs.declared.records.QuestionRecord.{QuestionRecord}
use Rattle.krb_c_negotiation.specs.declared.taking.TakenUp.{TakenUp}

abbrev pub size_in : Option (Vec ℕ Global) → ℕ
size_in None = 0
size_in (Some octets) = length octets.items

-- a question, and the octets of its token, its MIC and its list
abbrev pub question_of : Question → QuestionRecord
question_of q = record {
  rule = 0;
  mechanism = q.mechanism;
  steps = flag q.steps;
  has_token = flag (is_some q.token);
  has_mic = flag (is_some q.mic);
  has_list = flag (is_some q.list);
  token_size = size_in q.token;
  mic_size = size_in q.mic;
  list_size = size_in q.list;
}

abbrev pub octets_of_question : Question → List ℕ
octets_of_question q = (octets_in q.token ++ octets_in q.mic) ++ octets_in q.list

-- the rule that is broken, and nothing else
abbrev pub broken_question : Refusal → QuestionRecord
broken_question refusal = record {
  rule = refusal_number refusal;
  mechanism = 0;
  steps = 0;
  has_token = 0;
  has_mic = 0;
  has_list = 0;
  token_size = 0;
  mic_size = 0;
  list_size = 0;
}

abbrev pub IsBroken : Refusal → TakenUp → Type 0
IsBroken refusal taken = (taken.question ≡ broken_question refusal) × (taken.octets.items ≡ [])

abbrev pub IsTakenUp : Asked → TakenUp → Type 0
IsTakenUp (Ok question) taken = (taken.question ≡ question_of question) × (taken.octets.items ≡ octets_of_question question)
IsTakenUp (Err refusals.OutOfMemory) taken = ⊥
IsTakenUp (Err refusal) taken = IsBroken refusal taken

-- ---- what octets ask of the side of these numbers

abbrev pub AcceptorTakesUp : EncodingOf GssApiNegInit → EncodingOf (List (List ℕ)) → EncodingOf NegTokenTarg → EncodingOf (List (List (List ℕ)))
    → NegotiationRecord → Words → List ℕ → TakenUp → Type 0
AcceptorTakesUp o l t n side tale octets taken =
    (mechanisms : Vec Told Global) × (AreMechanisms n side tale mechanisms
    × ((acceptor : Acceptor Told) × (IsAcceptorOf side mechanisms tale.list acceptor
    × ((asked : Asked) × (AcceptorAsks o l t acceptor octets asked × IsTakenUp asked taken)))))

abbrev pub InitiatorTakesUp : EncodingOf NegTokenTarg → EncodingOf (List (List (List ℕ))) → NegotiationRecord → Words → List ℕ → TakenUp → Type 0
InitiatorTakesUp t n side tale octets taken =
    (mechanisms : Vec Told Global) × (AreMechanisms n side tale mechanisms
    × ((initiator : Initiator Told) × (IsInitiatorOf side mechanisms.items tale.list initiator
    × ((asked : Asked) × (InitiatorAsks t initiator octets asked × IsTakenUp asked taken)))))

abbrev pub IsTakenBy : Result Role CallError → EncodingOf GssApiNegInit → EncodingOf (List (List ℕ)) → EncodingOf NegTokenTarg
    → EncodingOf (List (List (List ℕ))) → NegotiationRecord → Words → List ℕ → TakenUp → Type 0
IsTakenBy (Err e) o l t n side tale octets taken = ⊥
IsTakenBy (Ok roles.Initiator) o l t n side tale octets taken = InitiatorTakesUp t n side tale octets taken
IsTakenBy (Ok roles.Acceptor) o l t n side tale octets taken = AcceptorTakesUp o l t n side tale octets taken

abbrev pub IsTaken : EncodingOf GssApiNegInit → EncodingOf (List (List ℕ)) → EncodingOf NegTokenTarg → EncodingOf (List (List (List ℕ)))
    → NegotiationRecord → Words → List ℕ → TakenUp → Type 0
IsTaken o l t n side tale octets taken = IsTakenBy (role_in side.role) o l t n side tale octets taken

-- ---- the call

-- what the caller's places hold
pub record QuestionPlaces : Type 0 where
  pub question : QuestionRecord
  pub out : List ℕ

-- where all octets fit, the caller has the numbers of the question
abbrev pub IsToldOver : TakenUp → QuestionRecord → QuestionRecord → ℕ → Type 0
IsToldOver taken before after status = ((status ≡ 0) × (after ≡ taken.question)) ⊎ ((status ≡ 1) × (after ≡ before))

abbrev pub Takes : EncodingOf GssApiNegInit → EncodingOf (List (List ℕ)) → EncodingOf NegTokenTarg → EncodingOf (List (List (List ℕ)))
    → NegotiationRecord → Words → List ℕ → QuestionPlaces → QuestionPlaces → ℕ → ℕ → Type 0
Takes o l t n side tale octets before after size status =
    ((taken : TakenUp) × (IsTaken o l t n side tale octets taken × (IsPut taken.octets.items before.out after.out size status
    × IsToldOver taken before.question after.question status)))
    ⊎ ((e : CallError) × (RefusesStep n side tale e
    × (IsRefused e before.out after.out size status × (after.question ≡ before.question))))
