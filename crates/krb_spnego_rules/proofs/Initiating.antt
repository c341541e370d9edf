-- An initiator is justified after each message.
use Rattle.std.proofs.Common.{◌≡◌, ◌&&◌, cond, ℕ, List, [], ◌∷◌, map, Bool, true, false, not, Option, Some, None, Result, Ok, Err, Vec, find, refl, sym, ap, subst, ◌∙◌, inl, inr}
use Rattle.std.specs.Prelude.{if◌then◌else◌}
use Rattle.std.specs.declared.alloc.Global.{Global}
use Rattle.krb_spnego_rules.specs.Decisions.{continues}
use Rattle.krb_spnego_rules.specs.Fields.{items_in}
use Rattle.krb_spnego_rules.specs.InitiatorSteps.{Begins, GoesOnAs, InitiatorSteps, RepliedBy, Replied, chosen, first_reply_in, picks, picks_other, settled}
use Rattle.krb_spnego_rules.specs.Justified.{FitsOffering, HasOffered, IsIn, IsInitiator, IsOn, Offering, SendsOver}
use Rattle.krb_spnego_rules.specs.Laws.{IsConfirmed}
use Rattle.krb_spnego_rules.specs.Meaning.{IsSteady, Meaning}
use Rattle.krb_spnego_rules.specs.Messages.{after_first_reply, is_preferred}
use Rattle.krb_spnego_rules.specs.Steps.{Outcome}
use Rattle.krb_spnego_rules.specs.Turns.{progress_in}
use Rattle.krb_spnego_rules.specs.declared.words.Choice.{Choice}
use Rattle.krb_spnego_rules.specs.declared.words.Choice.TheVariants.{Preferred, Other}
use Rattle.krb_spnego_rules.specs.declared.words.NegState.{NegState}
use Rattle.krb_spnego_rules.specs.declared.words.Role.TheVariants as roles
use Rattle.krb_spnego_rules.specs.declared.words.Rule.{Rule}
use Rattle.krb_spnego_rules.specs.declared.words.Terms.{Terms}
use Rattle.krb_spnego_rules.specs.declared.message.Message.{Message}
use Rattle.krb_spnego_rules.specs.declared.message.Refusal.{Refusal}
use Rattle.krb_spnego_rules.specs.declared.side.After.TheVariants as afters
use Rattle.krb_spnego_rules.specs.declared.initiator.Offered.{Offered}
use Rattle.krb_spnego_rules.specs.declared.initiator.Initiator.{Initiator}
use Rattle.krb_spnego_rules.specs.declared.initiator.Initiator.TheVariants as states
use Rattle.krb_spnego_rules.proofs.Agreed.{initiator_agreed}
use Rattle.krb_spnego_rules.proofs.Justifying.{Keeps, Shown, went_on, went_on_later}

-- ---- what is found

same_some : {A : Type 0} (a b : A) → Some a ≡ Some b → a ≡ b
same_some a b e = cc

none_found : {A : Type 0} (a : A) → None ≡ Some a → ⊥
none_found a e = cc

found_at : {A B : Type 0} (p : A → Bool) (f : A → B) (x : A) (xs : List A) (m : A) (b : Bool) → p x ≡ b → cond b (Some x) (find p xs) ≡ Some m
    → (find p xs ≡ Some m → (p m ≡ true) × IsIn (map f xs) (f m)) → (p m ≡ true) × IsIn (map f (x ∷ xs)) (f m)
found_at p f x xs m true is e rest = (ap p (sym (same_some x m e)) ∙ is, inl (ap f (sym (same_some x m e))))
found_at p f x xs m false is e rest = ((rest e).0, inr (rest e).1)

pub found : {A B : Type 0} (p : A → Bool) (f : A → B) (xs : List A) (m : A) → find p xs ≡ Some m → (p m ≡ true) × IsIn (map f xs) (f m)
found p f [] m e = absurd (none_found m e)
found p f (x ∷ xs) m e = found_at p f x xs m (p x) refl e (found p f xs m)

-- ---- the mechanism that the first reply names

record Picked {M : Type 0} (meaning : Meaning M) (offering : Offering) (first : M) (choice : Choice) (name : List ℕ) (m : M) : Type 0 where
  named : meaning.names m name ≡ true
  offered : IsIn (offering.preferred ∷ offering.others) (meaning.oid m)
  same : is_preferred choice ≡ true → m ≡ first

abbrev IsPicked : {M : Type 0} → Meaning M → Offering → M → List ℕ → Choice × Option M → Type 0
IsPicked meaning offering first name pick = (m : _) → pick.1 ≡ Some m → Picked meaning offering first pick.0 name m

other_is_not : (b : Bool) → is_preferred (Other b) ≡ true → ⊥
other_is_not b e = cc

other_picked : {M : Type 0} (meaning : Meaning M) (offering : Offering) (first : M) (others : List M) (name : List ℕ) (result : Option M)
    → result ≡ find (λ m. meaning.names m name) others → map meaning.oid others ≡ offering.others
    → IsPicked meaning offering first name (picks_other meaning result)
other_picked meaning offering first others name None is rest = λ m e. absurd (none_found m e)
other_picked meaning offering first others name (Some x) is rest = λ m e.
    let x_is : Some x ≡ Some m = e in
    let there : (meaning.names m name ≡ true) × IsIn (map meaning.oid others) (meaning.oid m)
    = found (λ m. meaning.names m name) meaning.oid others m (sym is ∙ x_is) in
    record {
      named = there.0;
      offered = inr (subst (λ oids. IsIn oids (meaning.oid m)) rest there.1);
      same = λ p. absurd (other_is_not (meaning.integrity x) p);
    }

picked_by : {M : Type 0} (meaning : Meaning M) (offering : Offering) (first : M) (others : List M) (name : List ℕ) (b : Bool)
    → meaning.names first name ≡ b → meaning.oid first ≡ offering.preferred → map meaning.oid others ≡ offering.others
    → IsPicked meaning offering first name
    (if b then (Preferred (meaning.integrity first), Some first) else picks_other meaning (find (λ m. meaning.names m name) others))
picked_by meaning offering first others name true is oid rest = λ m e. record {
  named = ap (λ x. meaning.names x name) (sym (same_some first m e)) ∙ is;
  offered = inl (ap meaning.oid (sym (same_some first m e)) ∙ oid);
  same = λ p. sym (same_some first m e);
}
picked_by meaning offering first others name false is oid rest =
    other_picked meaning offering first others name (find (λ m. meaning.names m name) others) refl rest

picked_named : {M : Type 0} (meaning : Meaning M) (offering : Offering) (first : M) (others : List M) (name : List ℕ)
    → meaning.oid first ≡ offering.preferred → map meaning.oid others ≡ offering.others
    → IsPicked meaning offering first name (picks meaning first others (Some name))
picked_named meaning offering first others name oid rest =
    picked_by meaning offering first others name (meaning.names first name) refl oid rest

-- ---- the first reply

fits_kept : {M : Type 0} (meaning : Meaning M) (offering : Offering) → IsSteady meaning → Keeps meaning (FitsOffering meaning offering)
fits_kept meaning offering steady = record {
  by_steps = λ a token b turn s name preferred f. record {
    named = steady.names_by_steps a token b turn s name ∙ f.named;
    offered = subst (IsIn (offering.preferred ∷ offering.others)) (sym (steady.oid_by_steps a token b turn s)) f.offered;
    first = λ p. steady.oid_by_steps a token b turn s ∙ f.first p;
  };
  by_makes = λ a text mic b s name preferred f. record {
    named = steady.names_by_makes a text mic b s name ∙ f.named;
    offered = subst (IsIn (offering.preferred ∷ offering.others)) (sym (steady.oid_by_makes a text mic b s)) f.offered;
    first = λ p. steady.oid_by_makes a text mic b s ∙ f.first p;
  };
}

pub not_true : (b : Bool) → not b ≡ true → b ≡ false
not_true true e = cc
not_true false e = refl

both : (a b : Bool) → (a && b) ≡ true → (a ≡ true) × (b ≡ true)
both true true e = (refl, refl)
both true false e = cc
both false b e = cc

-- the side that a mechanism comes to, on these terms
on_of : {M : Type 0} (meaning : Meaning M) (offering : Offering) (side : Offered M) (choice : Choice) (m : M) (name : Vec ℕ Global) (arcs : List ℕ)
    (terms : Terms) → HasOffered meaning offering side → name.items ≡ arcs → Picked meaning offering side.first choice arcs m → IsConfirmed terms choice
    → IsOn meaning (FitsOffering meaning offering) offering.list (chosen side.established side.list m name terms)
on_of meaning offering side choice m name arcs terms h is picked agreed = record {
  list_is = h.list_is;
  fitting = record {
    named = ap (meaning.names m) is ∙ picked.named;
    offered = picked.offered;
    first = λ p. ap meaning.oid (picked.same (sym agreed.preferred ∙ p)) ∙ h.preferred;
  };
  established = λ e. subst meaning.established (sym (picked.same (sym agreed.preferred ∙ (both side.established terms.preferred e).1)))
      (h.established (both side.established terms.preferred e).0);
  terms = agreed.required;
}

abbrev Goal : {M : Type 0} → Meaning M → Offering → Message → Outcome M → Type 0
Goal meaning offering message out =
    Shown meaning (FitsOffering meaning offering) offering.list roles.Initiator message.state (items_in message.mic) out

goes_as : {M : Type 0} (meaning : Meaning M) → IsSteady meaning → (offering : Offering) (side : Offered M) (message : Message) (choice : Choice) (m : M)
    (terms : Terms) (named : Option (List ℕ)) (out : Outcome M) → HasOffered meaning offering side → IsConfirmed terms choice
    → ((arcs : List ℕ) → named ≡ Some arcs → Picked meaning offering side.first choice arcs m)
    → GoesOnAs meaning side.established side.list message m terms named out → Goal meaning offering message out
goes_as meaning steady offering side message choice m terms None out h agreed picked g = subst (Goal meaning offering message) (sym g) tt
goes_as meaning steady offering side message choice m terms (Some arcs) out h agreed picked g =
    elim g [
      | inl memory ↦ subst (Goal meaning offering message) (sym memory) tt
      | inr step ↦
          went_on meaning (FitsOffering meaning offering) steady (fits_kept meaning offering steady) offering.list roles.Initiator
          (chosen side.established side.list m step.0 terms) None message.state (items_in message.token) (items_in message.mic) out
          (on_of meaning offering side choice m step.0 arcs terms h step.1.0 (picked arcs refl) agreed) step.1.1
    ]

replied_by : {M : Type 0} (meaning : Meaning M) → IsSteady meaning → (offering : Offering) (side : Offered M) (message : Message) (choice : Choice)
    (result : Option M) (verdict : Result Terms Rule) (out : Outcome M) → HasOffered meaning offering side
    → ((terms : Terms) → verdict ≡ Ok terms → IsConfirmed terms choice)
    → ((arcs : List ℕ) → items_in message.mechanism ≡ Some arcs → IsPicked meaning offering side.first arcs (choice, result))
    → RepliedBy meaning side.established side.list message result verdict out → Goal meaning offering message out
replied_by meaning steady offering side message choice result (Err rule) out h agreed picked r = subst (Goal meaning offering message) (sym r) tt
replied_by meaning steady offering side message choice None (Ok terms) out h agreed picked r = subst (Goal meaning offering message) (sym r) tt
replied_by meaning steady offering side message choice (Some m) (Ok terms) out h agreed picked r =
    goes_as meaning steady offering side message choice m terms (items_in message.mechanism) out h (agreed terms refl)
    (λ arcs is. picked arcs is m refl) r

replied : {M : Type 0} (meaning : Meaning M) → IsSteady meaning → (offering : Offering) (side : Offered M) (message : Message) (out : Outcome M)
    → HasOffered meaning offering side → Replied meaning side message out → Goal meaning offering message out
replied meaning steady offering side message out h r =
    let pick = picks meaning side.first side.others.items (items_in message.mechanism) in
    replied_by meaning steady offering side message pick.0 pick.1 (after_first_reply (first_reply_in pick.0 message) side.established) out h
    (λ terms e. initiator_agreed (first_reply_in pick.0 message) side.established terms e)
    (λ arcs is. subst (λ named. IsPicked meaning offering side.first arcs (picks meaning side.first side.others.items named)) (sym is)
    (picked_named meaning offering side.first side.others.items arcs h.preferred h.others)) r

-- ---- a step

settled_is : {M : Type 0} (meaning : Meaning M) (offering : Offering) (message : Message) (out : Outcome M) → Goal meaning offering message out
    → IsInitiator meaning offering message.state (items_in message.mic) (settled out).0 × SendsOver meaning offering.list (settled out).1
settled_is meaning offering message (Ok (afters.Running side, answer)) g = (g.0, g.1)
settled_is meaning offering message (Ok (afters.Complete side, answer)) g = (g.0, g.1)
settled_is meaning offering message (Err refusal) g = (tt, λ m mic is. absurd (none_found m is))

silent : {M : Type 0} (meaning : Meaning M) (offering : Offering) (message : Message) (refusal : Refusal) (result : Initiator M × Option Message)
    → result ≡ (states.Failed refusal, None)
    → IsInitiator meaning offering message.state (items_in message.mic) result.0 × SendsOver meaning offering.list result.1
silent meaning offering message refusal result e =
    subst (λ r. IsInitiator meaning offering message.state (items_in message.mic) r.0 × SendsOver meaning offering.list r.1) (sym e)
    (tt, λ m mic is. absurd (none_found m is))

pub initiator_step : {M : Type 0} (meaning : Meaning M) → IsSteady meaning → (offering : Offering) (state : Option NegState) (came : Option (List ℕ))
    (before : Initiator M) (message : Message) (result : Initiator M × Option Message) → IsInitiator meaning offering state came before
    → InitiatorSteps meaning before message result
    → IsInitiator meaning offering message.state (items_in message.mic) result.0 × SendsOver meaning offering.list result.1
initiator_step meaning steady offering state came (states.Offered side) message result h s =
    subst (λ r. IsInitiator meaning offering message.state (items_in message.mic) r.0 × SendsOver meaning offering.list r.1) (sym s.1.1)
    (settled_is meaning offering message s.0 (replied meaning steady offering side message s.0 h s.1.0))
initiator_step meaning steady offering state came (states.Running side) message result h s =
    subst (λ r. IsInitiator meaning offering message.state (items_in message.mic) r.0 × SendsOver meaning offering.list r.1) (sym s.1.1)
    (settled_is meaning offering message s.0
    (went_on_later meaning (FitsOffering meaning offering) steady (fits_kept meaning offering steady) offering.list roles.Initiator side message s.0 h s.1.0))
initiator_step meaning steady offering state came (states.Complete side) message result h s = silent meaning offering message _ result s
initiator_step meaning steady offering state came (states.Failed refusal) message result h s = silent meaning offering message refusal result s

-- ---- the offer

pub initiator_begun : {M : Type 0} (meaning : Meaning M) → IsSteady meaning → (first : M) (others : Vec M Global) (list : Vec ℕ Global)
    (result : Initiator M × Option (Vec ℕ Global)) → Begins meaning first others list result
    → IsInitiator meaning (record { preferred = meaning.oid first; others = map meaning.oid others.items; list = list.items }) None None result.0
initiator_begun meaning steady first others list result b =
    subst (λ r. IsInitiator meaning (record { preferred = meaning.oid first; others = map meaning.oid others.items; list = list.items }) None None r.0)
    (sym b.1.1.1)
    (record {
      preferred = steady.oid_by_steps first None b.0 b.1.0 b.1.1.0;
      others = refl;
      list_is = refl;
      established = λ e. steady.established_by_steps first None b.0 b.1.0 b.1.1.0 (not_true (continues (progress_in b.1.0)) e);
    })
