-- An acceptor is justified after the offer and after each message.
use Rattle.std.proofs.Common.{◌≡◌, ◌&&◌, ◌==◌, ℕ, List, [], ◌∷◌, Bool, true, false, Option, Some, None, Result, Ok, Err, Vec, refl, sym, ap, subst, ◌∙◌, inl, inr}
use Rattle.std.specs.Prelude.{is_some, slice_get}
use Rattle.std.specs.declared.alloc.Global.{Global}
use Rattle.krb_spnego_rules.specs.AcceptorSteps.{AcceptorIsOffered, AcceptorSteps, FirstAnswers, IsOffered, OfferedBy, TakesUp, choice_in_offer, is_first, name_at, named_in, offer_in, rank_in, settled, taken_up}
use Rattle.krb_spnego_rules.specs.EngineRuns.{received_in}
use Rattle.krb_spnego_rules.specs.Fields.{items_in}
use Rattle.krb_spnego_rules.specs.Justified.{FitsList, IsAcceptor, IsOn, Received, SendsOver}
use Rattle.krb_spnego_rules.specs.Laws.{IsConfirmed}
use Rattle.krb_spnego_rules.specs.Meaning.{IsSteady, Meaning}
use Rattle.krb_spnego_rules.specs.Messages.{after_offer, is_preferred}
use Rattle.krb_spnego_rules.specs.Steps.{Outcome, saying, waiting_state}
use Rattle.krb_spnego_rules.specs.declared.words.NegState.{NegState}
use Rattle.krb_spnego_rules.specs.declared.words.Role.TheVariants as roles
use Rattle.krb_spnego_rules.specs.declared.words.Rule.{Rule}
use Rattle.krb_spnego_rules.specs.declared.words.Terms.{Terms}
use Rattle.krb_spnego_rules.specs.declared.message.Message.{Message}
use Rattle.krb_spnego_rules.specs.declared.message.Proposal.{Proposal}
use Rattle.krb_spnego_rules.specs.declared.message.Refusal.{Refusal}
use Rattle.krb_spnego_rules.specs.declared.side.Running.{Running}
use Rattle.krb_spnego_rules.specs.declared.side.After.TheVariants as afters
use Rattle.krb_spnego_rules.specs.declared.acceptor.Fresh.{Fresh}
use Rattle.krb_spnego_rules.specs.declared.acceptor.Acceptor.{Acceptor}
use Rattle.krb_spnego_rules.specs.declared.acceptor.Acceptor.TheVariants as states
use Rattle.krb_spnego_rules.proofs.Agreed.{acceptor_agreed}
use Rattle.krb_spnego_rules.proofs.Initiating.{found}
use Rattle.krb_spnego_rules.proofs.Justifying.{Keeps, Shown, went_on, went_on_later}

false_is_not : false ≡ true → ⊥
false_is_not e = cc

none_found : {A : Type 0} (a : A) → None ≡ Some a → ⊥
none_found a e = cc

no_mic : (state : NegState) (named token : Option (Vec ℕ Global)) (message : Message) (mic : Vec ℕ Global)
    → Some (saying state named token None) ≡ Some message → message.mic ≡ Some mic → ⊥
no_mic state named token message mic is there = cc

fits_kept : {M : Type 0} (meaning : Meaning M) (mechanisms : List M) (received : Received) → IsSteady meaning
    → Keeps meaning (FitsList meaning mechanisms received)
fits_kept meaning mechanisms received steady = record {
  by_steps = λ a token b turn s name preferred f. record {
    rank = f.rank;
    picked = f.picked;
    listed = f.listed;
    named = steady.names_by_steps a token b turn s name ∙ f.named;
    first = f.first;
  };
  by_makes = λ a text mic b s name preferred f. record {
    rank = f.rank;
    picked = f.picked;
    listed = f.listed;
    named = steady.names_by_makes a text mic b s name ∙ f.named;
    first = f.first;
  };
}

-- ---- the mechanism that is found

named_of : {M : Type 0} (meaning : Meaning M) (mechanisms : List M) (listed : Vec ℕ Global) (m : M)
    → named_in meaning mechanisms (Some listed) ≡ Some m → meaning.names m listed.items ≡ true
named_of meaning mechanisms listed m e = (found (λ x. meaning.names x listed.items) meaning.oid mechanisms m e).0

preferred_is : {M : Type 0} (meaning : Meaning M) (names : List (Vec ℕ Global)) (rank : ℕ) (listed : Vec ℕ Global) (first : Bool) (m : M)
    → slice_get names rank ≡ Some listed → is_preferred (choice_in_offer meaning names first (Some m)) ≡ first
preferred_is meaning [] rank listed first m at = absurd (none_found listed at)
preferred_is meaning (name ∷ names) rank listed true m at = refl
preferred_is meaning (name ∷ names) rank listed false m at = refl

-- the rank of a name
ranked : (rank : Option ℕ) (names : List (Vec ℕ Global)) (listed : Vec ℕ Global) → name_at rank names ≡ Some listed
    → (n : ℕ) × ((rank ≡ Some n) × (slice_get names n ≡ Some listed))
ranked None names listed e = absurd (none_found listed e)
ranked (Some n) names listed e = (n, (refl, e))

first_of_rank : (rank : Option ℕ) (n : ℕ) → rank ≡ Some n → is_first rank ≡ (n == 0)
first_of_rank rank n e = ap is_first e

on_of : {M : Type 0} (meaning : Meaning M) (mechanisms : List M) (proposal : Proposal) (m : M) (name listed : Vec ℕ Global) (terms : Terms)
    → (rank : Option ℕ) → rank ≡ rank_in meaning mechanisms proposal.mechanisms.items → name_at rank proposal.mechanisms.items ≡ Some listed
    → named_in meaning mechanisms (Some listed) ≡ Some m → name.items ≡ listed.items
    → IsConfirmed terms (choice_in_offer meaning proposal.mechanisms.items (is_first rank) (Some m))
    → IsOn meaning (FitsList meaning mechanisms (received_in proposal)) proposal.list.items (taken_up m name terms proposal.list)
on_of meaning mechanisms proposal m name listed terms rank is at result same agreed =
    let r : (n : ℕ) × ((rank ≡ Some n) × (slice_get proposal.mechanisms.items n ≡ Some listed)) = ranked rank proposal.mechanisms.items listed at in
    record {
      list_is = refl;
      fitting = record {
        rank = r.0;
        picked = sym is ∙ r.1.0;
        listed = (listed, (r.1.1, same));
        named = ap (meaning.names m) same ∙ named_of meaning mechanisms listed m result;
        first = agreed.preferred
            ∙ (preferred_is meaning proposal.mechanisms.items r.0 listed (is_first rank) m r.1.1 ∙ first_of_rank rank r.0 r.1.0);
      };
      established = λ e. absurd (false_is_not e);
      terms = agreed.required;
    }

-- ---- the offer

abbrev Goal : {M : Type 0} → Meaning M → List M → Proposal → Outcome M → Type 0
Goal meaning mechanisms proposal out =
    Shown meaning (FitsList meaning mechanisms (received_in proposal)) proposal.list.items roles.Acceptor None (items_in proposal.mic) out

first_answers : {M : Type 0} (meaning : Meaning M) → IsSteady meaning → (mechanisms : List M) (proposal : Proposal) (side : Running M) (named : Vec ℕ Global)
    (looks : Bool) (out : Outcome M) → IsOn meaning (FitsList meaning mechanisms (received_in proposal)) proposal.list.items side
    → FirstAnswers meaning side named (items_in proposal.token) (items_in proposal.mic) looks out → Goal meaning mechanisms proposal out
first_answers meaning steady mechanisms proposal side named true out on f =
    went_on meaning (FitsList meaning mechanisms (received_in proposal)) steady (fits_kept meaning mechanisms (received_in proposal) steady)
    proposal.list.items roles.Acceptor side (Some named) None (items_in proposal.token) (items_in proposal.mic) out on f
first_answers meaning steady mechanisms proposal side named false out on f =
    subst (Goal meaning mechanisms proposal) (sym f)
    (on, λ message mic is there. absurd (no_mic (waiting_state true side.terms.required) (Some named) None message mic is there))

takes_up : {M : Type 0} (meaning : Meaning M) → IsSteady meaning → (mechanisms : List M) (proposal : Proposal) (rank : Option ℕ)
    (at : Option (Vec ℕ Global)) (m : M) (terms : Terms) (out : Outcome M) → rank ≡ rank_in meaning mechanisms proposal.mechanisms.items
    → at ≡ name_at rank proposal.mechanisms.items → named_in meaning mechanisms at ≡ Some m
    → IsConfirmed terms (choice_in_offer meaning proposal.mechanisms.items (is_first rank) (Some m))
    → TakesUp meaning proposal at m terms out → Goal meaning mechanisms proposal out
takes_up meaning steady mechanisms proposal rank None m terms out is at result agreed t = subst (Goal meaning mechanisms proposal) (sym t) tt
takes_up meaning steady mechanisms proposal rank (Some listed) m terms out is at result agreed t =
    elim t [
      | inl memory ↦ subst (Goal meaning mechanisms proposal) (sym memory) tt
      | inr step ↦
          first_answers meaning steady mechanisms proposal (taken_up m step.0 terms proposal.list) step.1.0 (terms.preferred && is_some proposal.token) out
          (on_of meaning mechanisms proposal m step.0 listed terms rank is (sym at) result step.1.1.0 agreed) step.1.1.1.1
    ]

offered_by : {M : Type 0} (meaning : Meaning M) → IsSteady meaning → (mechanisms : List M) (proposal : Proposal) (rank : Option ℕ)
    (at : Option (Vec ℕ Global)) (result : Option M) (verdict : Result Terms Rule) (out : Outcome M)
    → rank ≡ rank_in meaning mechanisms proposal.mechanisms.items → at ≡ name_at rank proposal.mechanisms.items
    → result ≡ named_in meaning mechanisms at
    → ((terms : Terms) → verdict ≡ Ok terms → IsConfirmed terms (choice_in_offer meaning proposal.mechanisms.items (is_first rank) result))
    → OfferedBy meaning proposal at result verdict out → Goal meaning mechanisms proposal out
offered_by meaning steady mechanisms proposal rank at result (Err rule) out is there r agreed o = subst (Goal meaning mechanisms proposal) (sym o) tt
offered_by meaning steady mechanisms proposal rank at None (Ok terms) out is there r agreed o = subst (Goal meaning mechanisms proposal) (sym o) tt
offered_by meaning steady mechanisms proposal rank at (Some m) (Ok terms) out is there r agreed o =
    takes_up meaning steady mechanisms proposal rank at m terms out is there (sym r) (agreed terms refl) o

offered : {M : Type 0} (meaning : Meaning M) → IsSteady meaning → (side : Fresh M) (proposal : Proposal) (out : Outcome M)
    → IsOffered meaning side proposal out → Goal meaning side.mechanisms.items proposal out
offered meaning steady side proposal out o =
    let rank = rank_in meaning side.mechanisms.items proposal.mechanisms.items in
    let at = name_at rank proposal.mechanisms.items in
    let result = named_in meaning side.mechanisms.items at in
    let choice = choice_in_offer meaning proposal.mechanisms.items (is_first rank) result in
    offered_by meaning steady side.mechanisms.items proposal rank at result (after_offer (offer_in choice proposal) side.asks) out refl refl refl
    (λ terms e. acceptor_agreed (offer_in choice proposal) side.asks terms e) o

-- ---- a step

abbrev Stays : {M : Type 0} → Meaning M → List M → Received → Option NegState → Option (List ℕ) → Acceptor M × Option Message → Type 0
Stays meaning mechanisms received state came result =
    IsAcceptor meaning mechanisms received state came result.0 × SendsOver meaning received.list result.1

settled_is : {M : Type 0} (meaning : Meaning M) (mechanisms : List M) (received : Received) (state : Option NegState) (came : Option (List ℕ))
    (out : Outcome M) → Shown meaning (FitsList meaning mechanisms received) received.list roles.Acceptor state came out
    → Stays meaning mechanisms received state came (settled out)
settled_is meaning mechanisms received state came (Ok (afters.Running side, answer)) g = (g.0, g.1)
settled_is meaning mechanisms received state came (Ok (afters.Complete side, answer)) g = (g.0, g.1)
settled_is meaning mechanisms received state came (Err refusal) g = (tt, λ m mic is. absurd (none_found m is))

silent : {M : Type 0} (meaning : Meaning M) (mechanisms : List M) (received : Received) (state : Option NegState) (came : Option (List ℕ))
    (refusal : Refusal) (result : Acceptor M × Option Message) → result ≡ (states.Failed refusal, None)
    → Stays meaning mechanisms received state came result
silent meaning mechanisms received state came refusal result e =
    subst (Stays meaning mechanisms received state came) (sym e) (tt, λ m mic is. absurd (none_found m is))

pub acceptor_offered : {M : Type 0} (meaning : Meaning M) → IsSteady meaning → (side : Fresh M) (proposal : Proposal)
    (result : Acceptor M × Option Message) → AcceptorIsOffered meaning (states.Fresh side) proposal result
    → IsAcceptor meaning side.mechanisms.items (received_in proposal) None (items_in proposal.mic) result.0
    × SendsOver meaning proposal.list.items result.1
acceptor_offered meaning steady side proposal result o =
    subst (Stays meaning side.mechanisms.items (received_in proposal) None (items_in proposal.mic)) (sym o.1.1)
    (settled_is meaning side.mechanisms.items (received_in proposal) None (items_in proposal.mic) o.0 (offered meaning steady side proposal o.0 o.1.0))

pub acceptor_step : {M : Type 0} (meaning : Meaning M) → IsSteady meaning → (mechanisms : List M) (received : Received) (state : Option NegState)
    (came : Option (List ℕ)) (before : Acceptor M) (message : Message) (result : Acceptor M × Option Message)
    → IsAcceptor meaning mechanisms received state came before → AcceptorSteps meaning before message result
    → IsAcceptor meaning mechanisms received message.state (items_in message.mic) result.0 × SendsOver meaning received.list result.1
acceptor_step meaning steady mechanisms received state came (states.Running side) message result h s =
    subst (Stays meaning mechanisms received message.state (items_in message.mic)) (sym s.1.1)
    (settled_is meaning mechanisms received message.state (items_in message.mic) s.0
    (went_on_later meaning (FitsList meaning mechanisms received) steady (fits_kept meaning mechanisms received steady) received.list roles.Acceptor side
    message s.0 h s.1.0))
acceptor_step meaning steady mechanisms received state came (states.Fresh side) message result h s =
    silent meaning mechanisms received message.state (items_in message.mic) _ result s
acceptor_step meaning steady mechanisms received state came (states.Bare side) message result h s =
    silent meaning mechanisms received message.state (items_in message.mic) _ result s
acceptor_step meaning steady mechanisms received state came (states.Complete side) message result h s =
    silent meaning mechanisms received message.state (items_in message.mic) _ result s
acceptor_step meaning steady mechanisms received state came (states.Failed refusal) message result h s =
    silent meaning mechanisms received message.state (items_in message.mic) _ result s
