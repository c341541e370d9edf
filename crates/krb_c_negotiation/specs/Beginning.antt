-- A call by which an initiator makes its offer (RFC 4178, 3.2 and 4.2.1).
use Rattle.std.specs.Prelude.{◌≡◌, ◌⊎◌, ◌++◌, ℕ, List, [], ◌∷◌, length, Result, Ok, Vec}
use Rattle.std.specs.declared.alloc.Global.{Global}
use Rattle.krb_c_calls.specs.Handing.{IsPut, IsRefused}
use Rattle.krb_c_calls.specs.declared.call_error.CallError.{CallError}
use Rattle.krb_c_calls.specs.declared.call_error.CallError.TheVariants as calls
use Rattle.krb_der_core.specs.declared.der.DerEncode.{Ghosts as EncodingOf}
use Rattle.krb_gss_tokens.specs.declared.spnego.GssApiNegInit.{GssApiNegInit}
use Rattle.krb_spnego.specs.Offering.{BeginsNot, BeginsWith}
use Rattle.krb_spnego.specs.Told.{told_meaning}
use Rattle.krb_spnego.specs.declared.error.BeginError.TheVariants as beginnings
use Rattle.krb_spnego.specs.declared.told.Told.{Told}
use Rattle.krb_spnego_rules.specs.declared.initiator.Initiator.{Initiator}
use Rattle.krb_spnego_rules.specs.declared.initiator.Initiator.TheVariants as initiators
use Rattle.krb_spnego_rules.specs.declared.message.Refusal.TheVariants.{Broken}
use Rattle.krb_spnego_rules.specs.declared.words.Role.{Role}
use Rattle.krb_spnego_rules.specs.declared.words.Role.TheVariants as roles
use Rattle.krb_spnego_rules.specs.declared.words.Rule.TheVariants as rules
use Rattle.krb_c_negotiation.specs.Mechanisms.{AreMechanisms, RefusesMechanisms, Words}
use Rattle.krb_c_negotiation.specs.Numbers.{role_in, stage_in}
use Rattle.krb_c_negotiation.specs.Sides.{failed_after, initiator_after}
use Rattle.krb_c_negotiation.specs.declared.beginning.Begun.{Begun}
use Rattle.krb_c_negotiation.specs.declared.numbers.Stage.{Stage}
use Rattle.krb_c_negotiation.specs.declared.numbers.Stage.TheVariants as stages
use Rattle.krb_c_negotiation.specs.declared.records.NegotiationRecord.{NegotiationRecord}

-- the encoding of the list that an initiator keeps
abbrev pub list_in : Initiator Told → List ℕ
list_in (initiators.Offered side) = side.list.items
list_in (initiators.Running side) = side.list.items
list_in (initiators.Complete side) = side.list.items
list_in (initiators.Failed refusal) = []

-- the side after its offer; the offer, and behind it the encoding of the list
pub record IsOffer (side : NegotiationRecord) (initiator : Initiator Told) (offer : List ℕ) (begun : Begun) : Type 0 where
  pub side_is : begun.side ≡ initiator_after side initiator
  pub offer_size : begun.offer_size ≡ length offer
  pub octets : begun.octets.items ≡ offer ++ list_in initiator

-- the preferred mechanism does not begin: the side has failed, and there is no offer
pub record IsHindered (side : NegotiationRecord) (begun : Begun) : Type 0 where
  pub side_is : begun.side ≡ failed_after side (Broken rules.MechanismFailed)
  pub offer_size : begun.offer_size ≡ 0
  pub octets : begun.octets.items ≡ []

-- an initiator of these mechanisms, the preferred one first
abbrev pub IsBegunOf : EncodingOf GssApiNegInit → EncodingOf (List (List ℕ)) → NegotiationRecord → Told → Vec Told Global → Begun → Type 0
IsBegunOf o l side first others begun =
    ((out : Initiator Told × Vec ℕ Global) × (BeginsWith o l told_meaning first others out × IsOffer side out.0 out.1.items begun))
    ⊎ (BeginsNot told_meaning first others.items beginnings.MechanismFailed × IsHindered side begun)

abbrev pub IsBegunWith : EncodingOf GssApiNegInit → EncodingOf (List (List ℕ)) → NegotiationRecord → List Told → Begun → Type 0
IsBegunWith o l side mechanisms begun =
    (first : Told) × ((others : Vec Told Global) × ((mechanisms ≡ first ∷ others.items) × IsBegunOf o l side first others begun))

-- one has no object identifier, or memory was wanting
abbrev pub RefusesFirst : Told → List Told → CallError → Type 0
RefusesFirst first others e =
    (e ≡ calls.Memory) ⊎ (BeginsNot told_meaning first others beginnings.NoIdentifier × (e ≡ calls.Invalid))

-- or there is none
abbrev pub RefusesBeginning : List Told → CallError → Type 0
RefusesBeginning mechanisms e =
    ((mechanisms ≡ []) × (e ≡ calls.Number))
    ⊎ ((first : Told) × ((others : List Told) × ((mechanisms ≡ first ∷ others) × RefusesFirst first others e)))

abbrev pub IsBegunAs : EncodingOf GssApiNegInit → EncodingOf (List (List ℕ)) → EncodingOf (List (List (List ℕ))) → NegotiationRecord → Words → Begun → Type 0
IsBegunAs o l n side tale begun =
    (mechanisms : Vec Told Global) × (AreMechanisms n side tale mechanisms × IsBegunWith o l side mechanisms.items begun)

abbrev pub RefusesBegunAs : EncodingOf (List (List (List ℕ))) → NegotiationRecord → Words → CallError → Type 0
RefusesBegunAs n side tale e =
    RefusesMechanisms n tale e
    ⊎ ((mechanisms : Vec Told Global) × (AreMechanisms n side tale mechanisms × RefusesBeginning mechanisms.items e))

-- ---- of an initiator that has not begun

abbrev pub IsBegunAt : Result Stage CallError → EncodingOf GssApiNegInit → EncodingOf (List (List ℕ)) → EncodingOf (List (List (List ℕ)))
    → NegotiationRecord → Words → Begun → Type 0
IsBegunAt (Ok stages.Begins) o l n side tale begun = IsBegunAs o l n side tale begun
IsBegunAt other o l n side tale begun = ⊥

abbrev pub IsBegunBy : Result Role CallError → EncodingOf GssApiNegInit → EncodingOf (List (List ℕ)) → EncodingOf (List (List (List ℕ)))
    → NegotiationRecord → Words → Begun → Type 0
IsBegunBy (Ok roles.Initiator) o l n side tale begun = IsBegunAt (stage_in side.stage) o l n side tale begun
IsBegunBy other o l n side tale begun = ⊥

abbrev pub IsBegun : EncodingOf GssApiNegInit → EncodingOf (List (List ℕ)) → EncodingOf (List (List (List ℕ))) → NegotiationRecord → Words → Begun → Type 0
IsBegun o l n side tale begun = IsBegunBy (role_in side.role) o l n side tale begun

abbrev pub RefusesBegunAt : Result Stage CallError → EncodingOf (List (List (List ℕ))) → NegotiationRecord → Words → CallError → Type 0
RefusesBegunAt (Ok stages.Begins) n side tale e = RefusesBegunAs n side tale e
RefusesBegunAt other n side tale e = e ≡ calls.Number

abbrev pub RefusesBegunBy : Result Role CallError → EncodingOf (List (List (List ℕ))) → NegotiationRecord → Words → CallError → Type 0
RefusesBegunBy (Ok roles.Initiator) n side tale e = RefusesBegunAt (stage_in side.stage) n side tale e
RefusesBegunBy other n side tale e = e ≡ calls.Number

abbrev pub RefusesBegun : EncodingOf (List (List (List ℕ))) → NegotiationRecord → Words → CallError → Type 0
RefusesBegun n side tale e = RefusesBegunBy (role_in side.role) n side tale e

-- ---- the call

-- what the caller's places hold
pub record OfferPlaces : Type 0 where
  pub side : NegotiationRecord
  pub offer_size : ℕ
  pub out : List ℕ

abbrev pub IsHandedOver : Begun → OfferPlaces → OfferPlaces → ℕ → Type 0
IsHandedOver begun before after status =
    ((status ≡ 0) × ((after.side ≡ begun.side) × (after.offer_size ≡ begun.offer_size)))
    ⊎ ((status ≡ 1) × ((after.side ≡ before.side) × (after.offer_size ≡ before.offer_size)))

abbrev pub Begins : EncodingOf GssApiNegInit → EncodingOf (List (List ℕ)) → EncodingOf (List (List (List ℕ))) → Words → OfferPlaces → OfferPlaces → ℕ → ℕ
    → Type 0
Begins o l n tale before after size status =
    ((begun : Begun) × (IsBegun o l n before.side tale begun
    × (IsPut begun.octets.items before.out after.out size status × IsHandedOver begun before after status)))
    ⊎ ((e : CallError) × (RefusesBegun n before.side tale e
    × (IsRefused e before.out after.out size status × ((after.side ≡ before.side) × (after.offer_size ≡ before.offer_size)))))
