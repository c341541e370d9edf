-- A side of a negotiation (RFC 4178, 3.2) as the numbers that the caller keeps.
use Rattle.std.specs.Prelude.{◌≡◌, ◌⊎◌, ◌+◌, ◌-◌, ◌%◌, ◌^◌, ◌==◌, nat_eq, ℕ, List, [], ◌∷◌, Bool, Option, Some, None, Result, Ok, Err, Vec, find, position, slice_get, if◌then◌else◌}
use Rattle.std.specs.Cmp.Lexicographic.{pointwise}
use Rattle.std.specs.Option.{option_map}
use Rattle.std.specs.declared.alloc.Global.{Global}
use Rattle.krb_c_calls.specs.declared.call_error.CallError.{CallError}
use Rattle.krb_c_calls.specs.declared.call_error.CallError.TheVariants as calls
use Rattle.krb_spnego.specs.declared.told.Told.{Told}
use Rattle.krb_spnego_rules.specs.declared.acceptor.Acceptor.{Acceptor}
use Rattle.krb_spnego_rules.specs.declared.acceptor.Acceptor.TheVariants as acceptors
use Rattle.krb_spnego_rules.specs.declared.acceptor.Bare.{Bare}
use Rattle.krb_spnego_rules.specs.declared.initiator.Initiator.{Initiator}
use Rattle.krb_spnego_rules.specs.declared.initiator.Initiator.TheVariants as initiators
use Rattle.krb_spnego_rules.specs.declared.initiator.Offered.{Offered}
use Rattle.krb_spnego_rules.specs.declared.message.Refusal.{Refusal}
use Rattle.krb_spnego_rules.specs.declared.side.Complete.{Complete}
use Rattle.krb_spnego_rules.specs.declared.side.Running.{Running}
use Rattle.krb_spnego_rules.specs.declared.words.Terms.{Terms}
use Rattle.krb_c_negotiation.specs.Numbers.{flag, is_set, refusal_in, refusal_number, stage_in}
use Rattle.krb_c_negotiation.specs.declared.numbers.Stage.{Stage}
use Rattle.krb_c_negotiation.specs.declared.numbers.Stage.TheVariants as stages
use Rattle.krb_c_negotiation.specs.declared.records.NegotiationRecord.{NegotiationRecord}

-- ---- from numbers

-- the first mechanism that the caller knows by this number; 3 where there is none
abbrev pub chosen_by : Option Told → Result Told CallError
chosen_by None = Err calls.Number
chosen_by (Some mechanism) = Ok mechanism

abbrev pub chosen_in : List Told → ℕ → Result Told CallError
chosen_in mechanisms number = chosen_by (find (λ m. m.place == number) mechanisms)

abbrev pub terms_in : NegotiationRecord → Terms
terms_in side = record { preferred = is_set side.preferred; required = is_set side.required; sent = is_set side.sent }

-- the name of a mechanism that has this number: 0 its own, k its k-th other one
abbrev pub other_name : List (Vec ℕ Global) → ℕ → Option (List ℕ)
other_name others place = option_map (λ other. other.items) (slice_get others place)

abbrev pub told_name : Told → ℕ → Option (List ℕ)
told_name m number = if number == 0 then Some m.oid.items else other_name m.others.items (number - 1)

-- memory was wanting, or no name has the number
abbrev pub RefusesName : Option (List ℕ) → CallError → Type 0
RefusesName name e = (e ≡ calls.Memory) ⊎ ((name ≡ None) × (e ≡ calls.Number))

-- a side that waits, with the mechanism of its number, under the name of its number, and this list
pub record IsRunningOf (side : NegotiationRecord) (mechanisms : List Told) (list : List ℕ) (r : Running Told) : Type 0 where
  pub mechanism : chosen_in mechanisms side.mechanism ≡ Ok r.mechanism
  pub name : told_name r.mechanism side.name ≡ Some r.name.items
  pub established : r.established ≡ is_set side.established
  pub terms : r.terms ≡ terms_in side
  pub list_is : r.list.items ≡ list

pub record IsCompleteOf (side : NegotiationRecord) (mechanisms : List Told) (list : List ℕ) (c : Complete Told) : Type 0 where
  pub mechanism : chosen_in mechanisms side.mechanism ≡ Ok c.mechanism
  pub name : told_name c.mechanism side.name ≡ Some c.name.items
  pub terms : c.terms ≡ terms_in side
  pub by_mic : c.by_mic ≡ is_set side.by_mic
  pub list_is : c.list.items ≡ list

-- memory was wanting, no mechanism has the number, or no name of it
abbrev pub RefusesChosen : NegotiationRecord → List Told → CallError → Type 0
RefusesChosen side mechanisms e =
    (e ≡ calls.Memory)
    ⊎ ((chosen_in mechanisms side.mechanism ≡ Err e)
    ⊎ ((m : Told) × ((chosen_in mechanisms side.mechanism ≡ Ok m) × ((told_name m side.name ≡ None) × (e ≡ calls.Number)))))

-- the first mechanism is the preferred one
pub record IsOfferedOf (side : NegotiationRecord) (mechanisms : List Told) (list : List ℕ) (o : Offered Told) : Type 0 where
  pub mechanisms_are : mechanisms ≡ o.first ∷ o.others.items
  pub established : o.established ≡ is_set side.established
  pub list_is : o.list.items ≡ list

abbrev pub RefusesOffered : List Told → CallError → Type 0
RefusesOffered mechanisms e = (e ≡ calls.Memory) ⊎ ((mechanisms ≡ []) × (e ≡ calls.Number))

abbrev pub bare_by : Result Told CallError → Bool → Result (Bare Told) CallError
bare_by (Ok mechanism) established = Ok (record { mechanism = mechanism; established = established })
bare_by (Err e) established = Err e

abbrev pub bare_in : NegotiationRecord → List Told → Result (Bare Told) CallError
bare_in side mechanisms = bare_by (chosen_in mechanisms side.mechanism) (is_set side.established)

-- an acceptor at this stage
abbrev pub IsAcceptorAt : Result Stage CallError → NegotiationRecord → Vec Told Global → List ℕ → Acceptor Told → Type 0
IsAcceptorAt (Err e) side mechanisms list acceptor = ⊥
IsAcceptorAt (Ok stages.Begins) side mechanisms list acceptor = acceptor ≡ acceptors.Fresh (record { mechanisms = mechanisms; asks = is_set side.asks })
IsAcceptorAt (Ok stages.Waits) side mechanisms list acceptor =
    (r : Running Told) × (IsRunningOf side mechanisms.items list r × (acceptor ≡ acceptors.Running r))
IsAcceptorAt (Ok stages.Offered) side mechanisms list acceptor = ⊥
IsAcceptorAt (Ok stages.Complete) side mechanisms list acceptor =
    (c : Complete Told) × (IsCompleteOf side mechanisms.items list c × (acceptor ≡ acceptors.Complete c))
IsAcceptorAt (Ok stages.Failed) side mechanisms list acceptor =
    (refusal : Refusal) × ((refusal_in side.rule ≡ Ok refusal) × (acceptor ≡ acceptors.Failed refusal))
IsAcceptorAt (Ok stages.Bare) side mechanisms list acceptor =
    (b : Bare Told) × ((bare_in side mechanisms.items ≡ Ok b) × (acceptor ≡ acceptors.Bare b))

abbrev pub IsAcceptorOf : NegotiationRecord → Vec Told Global → List ℕ → Acceptor Told → Type 0
IsAcceptorOf side mechanisms list acceptor = IsAcceptorAt (stage_in side.stage) side mechanisms list acceptor

-- the numbers are of none, or memory was wanting
abbrev pub RefusesAcceptorAt : Result Stage CallError → NegotiationRecord → List Told → CallError → Type 0
RefusesAcceptorAt (Err e) side mechanisms refusal = refusal ≡ e
RefusesAcceptorAt (Ok stages.Begins) side mechanisms refusal = ⊥
RefusesAcceptorAt (Ok stages.Waits) side mechanisms refusal = RefusesChosen side mechanisms refusal
RefusesAcceptorAt (Ok stages.Offered) side mechanisms refusal = refusal ≡ calls.Number
RefusesAcceptorAt (Ok stages.Complete) side mechanisms refusal = RefusesChosen side mechanisms refusal
RefusesAcceptorAt (Ok stages.Failed) side mechanisms refusal = refusal_in side.rule ≡ Err refusal
RefusesAcceptorAt (Ok stages.Bare) side mechanisms refusal = bare_in side mechanisms ≡ Err refusal

abbrev pub RefusesAcceptor : NegotiationRecord → List Told → CallError → Type 0
RefusesAcceptor side mechanisms refusal = RefusesAcceptorAt (stage_in side.stage) side mechanisms refusal

-- an initiator at this stage: before its offer it takes no message
abbrev pub IsInitiatorAt : Result Stage CallError → NegotiationRecord → List Told → List ℕ → Initiator Told → Type 0
IsInitiatorAt (Err e) side mechanisms list initiator = ⊥
IsInitiatorAt (Ok stages.Begins) side mechanisms list initiator = ⊥
IsInitiatorAt (Ok stages.Waits) side mechanisms list initiator =
    (r : Running Told) × (IsRunningOf side mechanisms list r × (initiator ≡ initiators.Running r))
IsInitiatorAt (Ok stages.Offered) side mechanisms list initiator =
    (o : Offered Told) × (IsOfferedOf side mechanisms list o × (initiator ≡ initiators.Offered o))
IsInitiatorAt (Ok stages.Complete) side mechanisms list initiator =
    (c : Complete Told) × (IsCompleteOf side mechanisms list c × (initiator ≡ initiators.Complete c))
IsInitiatorAt (Ok stages.Failed) side mechanisms list initiator =
    (refusal : Refusal) × ((refusal_in side.rule ≡ Ok refusal) × (initiator ≡ initiators.Failed refusal))
IsInitiatorAt (Ok stages.Bare) side mechanisms list initiator = ⊥

abbrev pub IsInitiatorOf : NegotiationRecord → List Told → List ℕ → Initiator Told → Type 0
IsInitiatorOf side mechanisms list initiator = IsInitiatorAt (stage_in side.stage) side mechanisms list initiator

abbrev pub RefusesInitiatorAt : Result Stage CallError → NegotiationRecord → List Told → CallError → Type 0
RefusesInitiatorAt (Err e) side mechanisms refusal = refusal ≡ e
RefusesInitiatorAt (Ok stages.Begins) side mechanisms refusal = refusal ≡ calls.Number
RefusesInitiatorAt (Ok stages.Waits) side mechanisms refusal = RefusesChosen side mechanisms refusal
RefusesInitiatorAt (Ok stages.Offered) side mechanisms refusal = RefusesOffered mechanisms refusal
RefusesInitiatorAt (Ok stages.Complete) side mechanisms refusal = RefusesChosen side mechanisms refusal
RefusesInitiatorAt (Ok stages.Failed) side mechanisms refusal = refusal_in side.rule ≡ Err refusal
RefusesInitiatorAt (Ok stages.Bare) side mechanisms refusal = refusal ≡ calls.Number

abbrev pub RefusesInitiator : NegotiationRecord → List Told → CallError → Type 0
RefusesInitiator side mechanisms refusal = RefusesInitiatorAt (stage_in side.stage) side mechanisms refusal

-- ---- to numbers

-- which of a mechanism's names it is: 0 its own, k its k-th other one
abbrev pub rank_of : Option ℕ → ℕ
rank_of None = 0
rank_of (Some rank) = (rank + 1) % 2 ^ 64

abbrev pub name_rank : Told → List ℕ → ℕ
name_rank m name =
    if pointwise nat_eq m.oid.items name then 0 else rank_of (position (λ other. pointwise nat_eq other.items name) m.others.items)

abbrev pub running_after : NegotiationRecord → Running Told → NegotiationRecord
running_after side r =
    record side {
      stage = 1;
      mechanism = r.mechanism.place;
      name = name_rank r.mechanism r.name.items;
      established = flag r.established;
      preferred = flag r.terms.preferred;
      required = flag r.terms.required;
      sent = flag r.terms.sent;
    }

abbrev pub complete_after : NegotiationRecord → Complete Told → NegotiationRecord
complete_after side c =
    record side {
      stage = 3;
      mechanism = c.mechanism.place;
      name = name_rank c.mechanism c.name.items;
      established = flag c.mechanism.established;
      preferred = flag c.terms.preferred;
      required = flag c.terms.required;
      sent = flag c.terms.sent;
      by_mic = flag c.by_mic;
    }

abbrev pub failed_after : NegotiationRecord → Refusal → NegotiationRecord
failed_after side refusal = record side { stage = 4; rule = refusal_number refusal }

abbrev pub bare_after : NegotiationRecord → Bare Told → NegotiationRecord
bare_after side b = record side { stage = 5; mechanism = b.mechanism.place; established = flag b.established }

abbrev pub offered_after : NegotiationRecord → Offered Told → NegotiationRecord
offered_after side o = record side { stage = 2; mechanism = o.first.place; established = flag o.established }

abbrev pub acceptor_after : NegotiationRecord → Acceptor Told → NegotiationRecord
acceptor_after side (acceptors.Fresh fresh) = side
acceptor_after side (acceptors.Running r) = running_after side r
acceptor_after side (acceptors.Complete c) = complete_after side c
acceptor_after side (acceptors.Bare b) = bare_after side b
acceptor_after side (acceptors.Failed refusal) = failed_after side refusal

abbrev pub initiator_after : NegotiationRecord → Initiator Told → NegotiationRecord
initiator_after side (initiators.Offered o) = offered_after side o
initiator_after side (initiators.Running r) = running_after side r
initiator_after side (initiators.Complete c) = complete_after side c
initiator_after side (initiators.Failed refusal) = failed_after side refusal
