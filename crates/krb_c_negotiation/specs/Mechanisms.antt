-- The mechanisms of a side (RFC 4178, 3.2 and 5), of what the caller tells: their names, what each made of a token, and its MICs.
use Rattle.std.specs.Prelude.{◌≡◌, ◌⊎◌, ◌&&◌, ◌==◌, ℕ, List, [], ◌∷◌, Bool, false, Option, Some, None, Result, Ok, Err, Vec, length, map, if◌then◌else◌}
use Rattle.std.specs.declared.alloc.Global.{Global}
use Rattle.krb_c_calls.specs.MessageRules.{RefusesReading}
use Rattle.krb_c_calls.specs.Statuses.{refusal_status}
use Rattle.krb_c_calls.specs.declared.call_error.CallError.{CallError}
use Rattle.krb_c_calls.specs.declared.call_error.CallError.TheVariants as calls
use Rattle.krb_der_core.specs.declared.der.DerEncode.{Ghosts as EncodingOf}
use Rattle.krb_spnego.specs.declared.told.Told.{Told}
use Rattle.krb_spnego.specs.declared.told.Verified.{Verified}
use Rattle.krb_spnego_rules.specs.Fields.{items_in}
use Rattle.krb_spnego_rules.specs.declared.mechanism.Turn.{Turn}
use Rattle.krb_spnego_rules.specs.declared.mechanism.Turn.TheVariants as turns
use Rattle.krb_spnego_rules.specs.declared.words.Progress.TheVariants as progress
use Rattle.krb_c_negotiation.specs.Numbers.{is_set, numbered}
use Rattle.krb_c_negotiation.specs.declared.mechanisms.Spoken.{Spoken}
use Rattle.krb_c_negotiation.specs.declared.mechanisms.Spoken.TheVariants as speaks
use Rattle.krb_c_negotiation.specs.declared.mechanisms.Tale.{Tale}
use Rattle.krb_c_negotiation.specs.declared.records.MechanismRecord.{MechanismRecord}
use Rattle.krb_c_negotiation.specs.declared.records.NegotiationRecord.{NegotiationRecord}

-- ---- what the caller tells, without the memory that it stands in

pub record Words : Type 0 where
  pub names : List ℕ
  pub mechanisms : List MechanismRecord
  pub list : List ℕ
  pub mechanism : ℕ
  pub progress : ℕ
  pub token : List ℕ
  pub verified : List ℕ
  pub mic : List ℕ

abbrev pub words : Tale → Words
words tale = record {
  names = tale.names.now;
  mechanisms = tale.mechanisms.now;
  list = tale.list.now;
  mechanism = tale.mechanism;
  progress = tale.progress;
  token = tale.token.now;
  verified = tale.verified.now;
  mic = tale.mic.now;
}

abbrev pub words_of : List ℕ → List MechanismRecord → List ℕ → ℕ → ℕ → List ℕ → List ℕ → List ℕ → Words
words_of names mechanisms list mechanism progress token verified mic = record {
  names = names;
  mechanisms = mechanisms;
  list = list;
  mechanism = mechanism;
  progress = progress;
  token = token;
  verified = verified;
  mic = mic;
}

-- ---- what the numbers say

abbrev pub spoken_in : ℕ → Result Spoken CallError
spoken_in number =
    numbered
    ((0, speaks.Takes progress.Continues)
    ∷ (1, speaks.Takes progress.EndsWithToken)
    ∷ (2, speaks.Takes progress.Ends)
    ∷ (3, speaks.Refuses)
    ∷ (4, speaks.Rests)
    ∷ [])
    number

-- ---- what a mechanism holds, without the memory that it stands in

-- a turn: whether it continues or ends, and its token
pub data TurnContent : Type 0 where
  goes : List ℕ → TurnContent
  gives_last : List ℕ → TurnContent
  at_end : TurnContent

abbrev pub turn_content : Option Turn → Option TurnContent
turn_content None = None
turn_content (Some (turns.Continues token)) = Some (goes token.items)
turn_content (Some (turns.EndsWithToken token)) = Some (gives_last token.items)
turn_content (Some turns.Ends) = Some at_end

-- a MIC that was verified, behind its text
abbrev pub verified_content : Option Verified → Option (List ℕ × List ℕ)
verified_content None = None
verified_content (Some v) = Some (v.text.items, v.mic.items)

pub record Content : Type 0 where
  pub place : ℕ
  pub oid : List ℕ
  pub others : List (List ℕ)
  pub integrity : Bool
  pub bare : Bool
  pub established : Bool
  pub turn : Option TurnContent
  pub verified : Option (List ℕ × List ℕ)
  pub mic : Option (List ℕ)
  pub lacks_mic : Bool

abbrev pub told_content : Told → Content
told_content m = record {
  place = m.place;
  oid = m.oid.items;
  others = map (λ other. other.items) m.others.items;
  integrity = m.integrity;
  bare = m.bare;
  established = m.established;
  turn = turn_content m.turn;
  verified = verified_content m.verified;
  mic = items_in m.mic;
  lacks_mic = m.lacks_mic;
}

-- ---- what the caller tells

abbrev pub told_turn : Spoken → List ℕ → Option TurnContent
told_turn (speaks.Takes progress.Continues) token = Some (goes token)
told_turn (speaks.Takes progress.EndsWithToken) token = Some (gives_last token)
told_turn (speaks.Takes progress.Ends) token = Some at_end
told_turn speaks.Refuses token = None
told_turn speaks.Rests token = None

-- a MIC of no octets is none
abbrev pub told_verified : List ℕ → List ℕ → Option (List ℕ × List ℕ)
told_verified text [] = None
told_verified text (x ∷ xs) = Some (text, x ∷ xs)

abbrev pub told_mic : List ℕ → Option (List ℕ)
told_mic [] = None
told_mic (x ∷ xs) = Some (x ∷ xs)

-- a mechanism's own name, and its others
abbrev pub first_name : List (List ℕ) → List ℕ
first_name [] = []
first_name (name ∷ names) = name

abbrev pub other_names : List (List ℕ) → List (List ℕ)
other_names [] = []
other_names (name ∷ names) = names

abbrev pub content_of : List (List ℕ) → MechanismRecord → Bool → Option TurnContent → Option (List ℕ × List ℕ) → Option (List ℕ) → Content
content_of names mechanism established turn verified mic = record {
  place = mechanism.number;
  oid = first_name names;
  others = other_names names;
  integrity = is_set mechanism.integrity;
  bare = is_set mechanism.is_bare;
  established = established;
  turn = turn;
  verified = verified;
  mic = mic;
  lacks_mic = false;
}

-- the context of the mechanism that both sides use is established where the side says so
abbrev pub is_established : NegotiationRecord → MechanismRecord → Bool
is_established side mechanism = (mechanism.number == side.mechanism) && is_set side.established

-- the caller tells of one mechanism, and of the others their names alone
abbrev pub content_in : NegotiationRecord → Spoken → Words → List (List ℕ) → MechanismRecord → Content
content_in side spoken tale names mechanism =
    if mechanism.number == tale.mechanism then
    content_of names mechanism (is_established side mechanism) (told_turn spoken tale.token)
    (told_verified tale.list tale.verified) (told_mic tale.mic)
    else content_of names mechanism (is_established side mechanism) None None None

abbrev pub contents : NegotiationRecord → Spoken → Words → List (List (List ℕ)) → List MechanismRecord → List Content
contents side spoken tale [] mechanisms = []
contents side spoken tale (names ∷ lists) [] = []
contents side spoken tale (names ∷ lists) (mechanism ∷ mechanisms) =
    content_in side spoken tale names mechanism ∷ contents side spoken tale lists mechanisms

-- ---- all of them: as many as there are lists of names

pub record AreMechanisms (t : EncodingOf (List (List (List ℕ)))) (side : NegotiationRecord) (tale : Words) (mechanisms : Vec Told Global) : Type 0 where
  pub spoken : Spoken
  pub spoken_is : spoken_in tale.progress ≡ Ok spoken
  pub lists : List (List (List ℕ))
  pub is_value : t.is_value lists
  pub encoded : tale.names ≡ t.enc lists
  pub as_many : length lists ≡ length tale.mechanisms
  pub told : map told_content mechanisms.items ≡ contents side spoken tale lists tale.mechanisms

-- the number is none; the names are no encoding, or there are more or fewer of them; or memory was wanting
abbrev pub RefusesMechanisms : EncodingOf (List (List (List ℕ))) → Words → CallError → Type 0
RefusesMechanisms t tale e =
    (spoken_in tale.progress ≡ Err e)
    ⊎ (RefusesReading t tale.names (refusal_status e)
    ⊎ ((lists : List (List (List ℕ))) × (t.is_value lists × ((tale.names ≡ t.enc lists)
    × ((length lists ≡ length tale.mechanisms → ⊥) × (e ≡ calls.Invalid))))))
