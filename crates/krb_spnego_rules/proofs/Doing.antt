-- The parts of a step of a side.
use Rattle.std.proofs.Common.{◌≡◌, ◌&&◌, is_some, ℕ, List, Bool, false, Option, Some, Ok, Vec, find, refl, sym, subst, inr}
use Rattle.std.specs.declared.alloc.Global.{Global}
use Rattle.krb_spnego_rules.specs.Fields.{items_in}
use Rattle.krb_spnego_rules.specs.Meaning.{Meaning}
use Rattle.krb_spnego_rules.specs.Steps.{Does, Finishes, GoesOn, Outcome, Waits}
use Rattle.krb_spnego_rules.specs.AcceptorSteps.{FirstAnswers, IsOffered, OfferedAs, OfferedFor, TakesUp, name_at, named_in, rank_in, taken_up}
use Rattle.krb_spnego_rules.specs.InitiatorSteps.{picks, picks_other}
use Rattle.krb_spnego_rules.specs.declared.words.Decision.{Decision}
use Rattle.krb_spnego_rules.specs.declared.words.Decision.TheVariants.{Wait, Finish}
use Rattle.krb_spnego_rules.specs.declared.words.Mic.{Mic}
use Rattle.krb_spnego_rules.specs.declared.words.NegState.{NegState}
use Rattle.krb_spnego_rules.specs.declared.words.Role.{Role}
use Rattle.krb_spnego_rules.specs.declared.words.Terms.{Terms}
use Rattle.krb_spnego_rules.specs.declared.mechanism.Turn.{Turn}
use Rattle.krb_spnego_rules.specs.declared.message.Message.{Message}
use Rattle.krb_spnego_rules.specs.declared.message.Proposal.{Proposal}
use Rattle.krb_spnego_rules.specs.declared.acceptor.Fresh.{Fresh}
use Rattle.krb_spnego_rules.specs.declared.side.Running.{Running}
use Rattle.krb_spnego_rules.specs.declared.side.After.{After}

pub finished : {M : Type 0} (meaning : Meaning M) (side : Running M) (turn : Turn) (sight : Mic) (named : Option (Vec ℕ Global)) (decision : Decision)
    (mic : Bool) (sent : After M × Option Message) → decision ≡ Finish mic → Finishes meaning side turn sight named mic sent
    → Does meaning side turn sight named decision (Ok sent)
finished meaning side turn sight named decision mic sent is h =
    subst (λ d. Does meaning side turn sight named d (Ok sent)) (sym is) (sent, (h, refl))

pub waited : {M : Type 0} (meaning : Meaning M) (side : Running M) (turn : Turn) (sight : Mic) (named : Option (Vec ℕ Global)) (decision : Decision)
    (mic : Bool) (sent : After M × Option Message) → decision ≡ Wait mic → Waits meaning side turn named mic sent
    → Does meaning side turn sight named decision (Ok sent)
waited meaning side turn sight named decision mic sent is h =
    subst (λ d. Does meaning side turn sight named d (Ok sent)) (sym is) (sent, (h, refl))

-- another mechanism than the preferred one is named
pub picked_other : {M : Type 0} (meaning : Meaning M) (first : M) (others : List M) (named : Option (Vec ℕ Global)) (name : Vec ℕ Global)
    → named ≡ Some name → meaning.names first name.items ≡ false
    → picks_other meaning (find (λ m. meaning.names m name.items) others) ≡ picks meaning first others (items_in named)
picked_other meaning first others named name is other =
    rw is
    rw other
    refl

-- the same step, of equal sides and fields
pub goes_on : {M : Type 0} (meaning : Meaning M) (role : Role) (a b : Running M) (named : Option (Vec ℕ Global)) (state : Option NegState)
    (token token' mic mic' : Option (List ℕ)) (out : Outcome M) → a ≡ b → token ≡ token' → mic ≡ mic'
    → GoesOn meaning role a named state token mic out → GoesOn meaning role b named state token' mic' out
goes_on meaning role a b named state token token' mic mic' out e f h taken =
    subst (λ s. GoesOn meaning role s named state token' mic' out) e
    (subst (λ t. GoesOn meaning role a named state t mic' out) f (subst (λ m. GoesOn meaning role a named state token m out) h taken))

-- the mechanism is taken up under the name that the list has at its rank
pub took_up : {M : Type 0} (meaning : Meaning M) (proposal : Proposal) (at : Option (Vec ℕ Global)) (mechanism : M) (terms : Terms) (out : Outcome M)
    (listed name named : Vec ℕ Global) (token mic : Option (List ℕ)) (looks : Bool) → Some listed ≡ at → name.items ≡ listed.items
    → named.items ≡ listed.items → token ≡ items_in proposal.token → mic ≡ items_in proposal.mic → looks ≡ (terms.preferred && is_some proposal.token)
    → FirstAnswers meaning (taken_up mechanism name terms proposal.list) named token mic looks out → TakesUp meaning proposal at mechanism terms out
took_up meaning proposal at mechanism terms out listed name named token mic looks is n m t u l h =
    subst (λ a. TakesUp meaning proposal a mechanism terms out) is
    (inr (
      name,
      (
        named,
        (
          n,
          (
            m,
            subst (λ x. FirstAnswers meaning (taken_up mechanism name terms proposal.list) named x (items_in proposal.mic) (terms.preferred && is_some proposal.token) out) t
                (subst (λ x. FirstAnswers meaning (taken_up mechanism name terms proposal.list) named token x (terms.preferred && is_some proposal.token) out) u
                (subst (λ x. FirstAnswers meaning (taken_up mechanism name terms proposal.list) named token mic x out) l h)),
          ),
        ),
      ),
    ))

-- an offer, by the rank and the mechanism that are found
pub offered_as : {M : Type 0} (meaning : Meaning M) (side : Fresh M) (proposal : Proposal) (rank : Option ℕ) (found : Option M) (out : Outcome M)
    → rank ≡ rank_in meaning side.mechanisms.items proposal.mechanisms.items
    → found ≡ named_in meaning side.mechanisms.items (name_at rank proposal.mechanisms.items)
    → OfferedAs meaning side.asks proposal rank (name_at rank proposal.mechanisms.items) found out → IsOffered meaning side proposal out
offered_as meaning side proposal rank found out r f h =
    subst (λ x. OfferedFor meaning side proposal x out) r
    (subst (λ x. OfferedAs meaning side.asks proposal rank (name_at rank proposal.mechanisms.items) x out) f h)
