-- What justifies that a side is complete (RFC 4178, 5 and 7).
use Rattle.std.specs.Prelude.{◌≡◌, ◌⊎◌, ◌==◌, ℕ, List, [], ◌∷◌, Bool, true, false, map, Option, Some, Vec, slice_get}
use Rattle.std.specs.declared.alloc.Global.{Global}
use Rattle.krb_spnego_rules.specs.AcceptorSteps.{rank_in}
use Rattle.krb_spnego_rules.specs.Meaning.{Meaning}
use Rattle.krb_spnego_rules.specs.declared.words.NegState.{NegState}
use Rattle.krb_spnego_rules.specs.declared.words.NegState.TheVariants.{AcceptCompleted}
use Rattle.krb_spnego_rules.specs.declared.words.Role.{Role}
use Rattle.krb_spnego_rules.specs.declared.words.Role.TheVariants as roles
use Rattle.krb_spnego_rules.specs.declared.message.Message.{Message}
use Rattle.krb_spnego_rules.specs.declared.side.Running.{Running}
use Rattle.krb_spnego_rules.specs.declared.side.Complete.{Complete}
use Rattle.krb_spnego_rules.specs.declared.side.After.{After}
use Rattle.krb_spnego_rules.specs.declared.side.After.TheVariants as afters
use Rattle.krb_spnego_rules.specs.declared.initiator.Offered.{Offered}
use Rattle.krb_spnego_rules.specs.declared.initiator.Initiator.{Initiator}
use Rattle.krb_spnego_rules.specs.declared.initiator.Initiator.TheVariants as initiators
use Rattle.krb_spnego_rules.specs.declared.acceptor.Acceptor.{Acceptor}
use Rattle.krb_spnego_rules.specs.declared.acceptor.Acceptor.TheVariants as acceptors

-- ---- a side. `fits` says of a mechanism, the name that it was chosen by, and whether it is the preferred one, that they fit the list.

-- the MIC that came with the peer's message holds of the side's list, under the context of its mechanism
abbrev pub IsProtected : {M : Type 0} → Meaning M → Option (List ℕ) → Complete M → Type 0
IsProtected meaning came side = (mic : List ℕ) × ((came ≡ Some mic) × meaning.holds side.mechanism side.list.items mic)

-- what a peer has to have said where a side is complete with no MIC of it: the acceptor that it is complete (RFC 4178, 4.2.2)
abbrev pub Agrees : Role → Option NegState → Type 0
Agrees roles.Initiator state = state ≡ Some AcceptCompleted
Agrees roles.Acceptor state = Unit {0}

-- a mechanism is chosen, and it is the preferred one, or MICs have to be exchanged
pub record IsOn {M : Type 0} (meaning : Meaning M) (fits : M → List ℕ → Bool → Type 0) (list : List ℕ) (side : Running M) : Type 0 where
  pub list_is : side.list.items ≡ list
  pub fitting : fits side.mechanism side.name.items side.terms.preferred
  pub established : side.established ≡ true → meaning.established side.mechanism
  pub terms : (side.terms.preferred ≡ true) ⊎ (side.terms.required ≡ true)

-- NO DOWNGRADE WITHOUT A FORGED MIC: the mechanism's context is established, and the MIC that came with the peer's last message holds of just this list
-- under it; or it is the preferred mechanism, nobody asked for MICs, and the peer agrees that it is complete.
pub record IsJustified {M : Type 0} (meaning : Meaning M) (fits : M → List ℕ → Bool → Type 0) (list : List ℕ) (role : Role) (state : Option NegState)
    (came : Option (List ℕ)) (side : Complete M) : Type 0 where
  pub list_is : side.list.items ≡ list
  pub fitting : fits side.mechanism side.name.items side.terms.preferred
  pub established : meaning.established side.mechanism
  pub by_mic : side.by_mic ≡ true → IsProtected meaning came side
  pub reason : (side.by_mic ≡ true) ⊎ ((side.terms.preferred ≡ true) × ((side.terms.required ≡ false) × Agrees role state))

abbrev pub IsAfter : {M : Type 0} → Meaning M → (M → List ℕ → Bool → Type 0) → List ℕ → Role → Option NegState → Option (List ℕ) → After M → Type 0
IsAfter meaning fits list role state came (afters.Running side) = IsOn meaning fits list side
IsAfter meaning fits list role state came (afters.Complete side) = IsJustified meaning fits list role state came side

-- what is sent as mechListMIC is made over this list
abbrev pub SendsOver : {M : Type 0} → Meaning M → List ℕ → Option Message → Type 0
SendsOver meaning list answer =
    (message : Message) (mic : Vec ℕ Global) → answer ≡ Some message → message.mic ≡ Some mic → (a : _) × ((b : _) × meaning.makes a list mic.items b)

-- ---- an initiator

-- x is an element
abbrev pub IsIn : {X : Type 0} → List X → X → Type 0
IsIn [] x = ⊥
IsIn (y ∷ ys) x = (x ≡ y) ⊎ IsIn ys x

-- what it offered: the object identifiers of its mechanisms, the preferred one first, and the DER encoding of their list as it was sent
pub record Offering : Type 0 where
  pub preferred : List ℕ
  pub others : List (List ℕ)
  pub list : List ℕ

-- the mechanism is one of those that were offered, supportedMech names it, and the preferred one is the first
pub record FitsOffering {M : Type 0} (meaning : Meaning M) (offering : Offering) (mechanism : M) (name : List ℕ) (preferred : Bool) : Type 0 where
  pub named : meaning.names mechanism name ≡ true
  pub offered : IsIn (offering.preferred ∷ offering.others) (meaning.oid mechanism)
  pub first : preferred ≡ true → meaning.oid mechanism ≡ offering.preferred

pub record HasOffered {M : Type 0} (meaning : Meaning M) (offering : Offering) (side : Offered M) : Type 0 where
  pub preferred : meaning.oid side.first ≡ offering.preferred
  pub others : map meaning.oid side.others.items ≡ offering.others
  pub list_is : side.list.items ≡ offering.list
  pub established : side.established ≡ true → meaning.established side.first

-- the state of an initiator that offered this, where a message with this state and MIC was the last
abbrev pub IsInitiator : {M : Type 0} → Meaning M → Offering → Option NegState → Option (List ℕ) → Initiator M → Type 0
IsInitiator meaning offering state came (initiators.Offered side) = HasOffered meaning offering side
IsInitiator meaning offering state came (initiators.Running side) = IsOn meaning (FitsOffering meaning offering) offering.list side
IsInitiator meaning offering state came (initiators.Complete side) =
    IsJustified meaning (FitsOffering meaning offering) offering.list roles.Initiator state came side
IsInitiator meaning offering state came (initiators.Failed refusal) = Unit {0}

-- ---- an acceptor

-- what it was offered: the object identifiers of a list, and its DER encoding
pub record Received : Type 0 where
  pub names : List (Vec ℕ Global)
  pub list : List ℕ

-- the name is the list's first that names one of the acceptor's mechanisms, it names this one, and the preferred one is the list's first
pub record FitsList {M : Type 0} (meaning : Meaning M) (mechanisms : List M) (received : Received) (mechanism : M) (name : List ℕ)
    (preferred : Bool) : Type 0 where
  pub rank : ℕ
  pub picked : rank_in meaning mechanisms received.names ≡ Some rank
  pub listed : (at : Vec ℕ Global) × ((slice_get received.names rank ≡ Some at) × (name ≡ at.items))
  pub named : meaning.names mechanism name ≡ true
  pub first : preferred ≡ (rank == 0)

-- the state of an acceptor of these mechanisms that got this, where a message with this state and MIC was the last
abbrev pub IsAcceptor : {M : Type 0} → Meaning M → List M → Received → Option NegState → Option (List ℕ) → Acceptor M → Type 0
IsAcceptor meaning mechanisms received state came (acceptors.Fresh side) = Unit {0}
IsAcceptor meaning mechanisms received state came (acceptors.Running side) = IsOn meaning (FitsList meaning mechanisms received) received.list side
IsAcceptor meaning mechanisms received state came (acceptors.Complete side) =
    IsJustified meaning (FitsList meaning mechanisms received) received.list roles.Acceptor state came side
IsAcceptor meaning mechanisms received state came (acceptors.Bare side) = Unit {0}
IsAcceptor meaning mechanisms received state came (acceptors.Failed refusal) = Unit {0}
