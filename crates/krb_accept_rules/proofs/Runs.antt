-- A run is a history of the cache.
use Rattle.std.proofs.Common.{ℕ, ℤ, List, [], ◌∷◌, Result, Ok, Err, subst}
use Rattle.krb_accept_rules.specs.Accepting.{IsAccepted}
use Rattle.krb_accept_rules.specs.Remembering.{IsHistory, Step, records}
use Rattle.krb_accept_rules.specs.Remembering as step
use Rattle.krb_accept_rules.specs.Runs.{Event, IsAnswered, IsRun, comes, forgets}
use Rattle.krb_accept_rules.specs.declared.accepted.Accepted.{Accepted}
use Rattle.krb_accept_rules.specs.declared.cache.Entry.{Entry}
use Rattle.krb_accept_rules.specs.declared.key.ServiceKey.{ServiceKey}
use Rattle.krb_accept_rules.specs.declared.opening.Opening.{Ghosts as OpeningOf}
use Rattle.krb_accept_rules.specs.declared.refusal.Refusal.{Refusal}
use Rattle.krb_accept_rules.specs.declared.terms.Arrival.{Arrival}
use Rattle.krb_accept_rules.specs.declared.terms.Terms.{Terms}
use Rattle.krb_accept_rules.proofs.Once.{once}

-- the steps of a history
pub record HasHistory (skew : ℕ) (later : ℤ) (seen after : List Entry) : Type 0 where
  pub steps : List Step
  pub history : IsHistory skew later steps seen after

after_answer : {O : Type 0} (o : OpeningOf O) (keys session_keys : List ServiceKey) (terms : Terms) (arrival : Arrival) (octets : List ℕ) (later : ℤ) (seen next after : List Entry) (answer : Result Accepted Refusal)
    → IsAnswered o keys session_keys terms arrival octets seen next answer → HasHistory terms.skew later next after → HasHistory terms.skew later seen after
after_answer o keys session_keys terms arrival octets later seen next after (Ok a) p h =
    record { steps = records p.entry ∷ h.steps; history = (next, tt, p.admitted.remembered, h.history) }
after_answer o keys session_keys terms arrival octets later seen next after (Err e) p h =
    record { steps = h.steps; history = subst (λ (l : List Entry). IsHistory terms.skew later h.steps l after) p.1 h.history }

history_of : {O : Type 0} (o : OpeningOf O) (keys session_keys : List ServiceKey) (terms : Terms) (later : ℤ) (events : List Event) (seen after : List Entry)
    → IsRun o keys session_keys terms later events seen after → HasHistory terms.skew later seen after
history_of o keys session_keys terms later [] seen after h = record { steps = []; history = h }
history_of o keys session_keys terms later (comes arrival octets answer ∷ events) seen after h =
    after_answer o keys session_keys terms arrival octets later seen h.0 after answer h.1 (history_of o keys session_keys terms later events h.0 after h.2)
history_of o keys session_keys terms later (forgets clock ∷ events) seen after h =
    let rest = history_of o keys session_keys terms later events h.0 after h.3 in
    record { steps = step.forgets clock ∷ rest.steps; history = (h.0, h.1, h.2, rest.history) }

pub never_again : {O : Type 0} (o : OpeningOf O) (keys session_keys : List ServiceKey) (terms : Terms) (first second : Arrival) (octets : List ℕ) (events : List Event) (seen after later last : List Entry) (a b : Accepted)
    → IsAccepted o keys session_keys terms first octets seen after a → IsRun o keys session_keys terms second.clock events after later → IsAccepted o keys session_keys terms second octets later last b → ⊥
never_again o keys session_keys terms first second octets events seen after later last a b p run q =
    let h = history_of o keys session_keys terms second.clock events after later run in
    once o keys session_keys terms first second octets h.steps seen after later last a b p h.history q
