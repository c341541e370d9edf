-- A service over time: requests come, and old entries are forgotten.
use Rattle.std.specs.Prelude.{◌≡◌, ℕ, ℤ, ◌≤ℤ◌, List, [], ◌∷◌, Result, Ok, Err}
use Rattle.krb_accept_rules.specs.Accepting.{IsAccepted, IsRefused}
use Rattle.krb_accept_rules.specs.Remembering.{IsWithout}
use Rattle.krb_accept_rules.specs.declared.accepted.Accepted.{Accepted}
use Rattle.krb_accept_rules.specs.declared.cache.Entry.{Entry}
use Rattle.krb_accept_rules.specs.declared.key.ServiceKey.{ServiceKey}
use Rattle.krb_accept_rules.specs.declared.opening.Opening.{Ghosts as OpeningOf}
use Rattle.krb_accept_rules.specs.declared.refusal.Refusal.{Refusal}
use Rattle.krb_accept_rules.specs.declared.terms.Arrival.{Arrival}
use Rattle.krb_accept_rules.specs.declared.terms.Terms.{Terms}

-- octets come, and this is answered; or old entries are forgotten at a time of the clock
pub data Event : Type 0 where
  comes : Arrival → List ℕ → Result Accepted Refusal → Event
  forgets : ℤ → Event

-- the answer is one that `accept` may give, and this is the cache afterwards: a refusal leaves it as it was
abbrev pub IsAnswered : {O : Type 0} → OpeningOf O → List ServiceKey → List ServiceKey → Terms → Arrival → List ℕ
    → List Entry → List Entry → Result Accepted Refusal → Type 0
IsAnswered o keys session_keys terms arrival octets seen after (Ok a) = IsAccepted o keys session_keys terms arrival octets seen after a
IsAnswered o keys session_keys terms arrival octets seen after (Err e) = IsRefused o keys session_keys terms arrival octets seen e × (after ≡ seen)

-- one event after the other; nothing is forgotten at a clock later than this
abbrev pub IsRun : {O : Type 0} → OpeningOf O → List ServiceKey → List ServiceKey → Terms → ℤ → List Event → List Entry → List Entry → Type 0
IsRun o keys session_keys terms later [] seen after = after ≡ seen
IsRun o keys session_keys terms later (comes arrival octets answer ∷ events) seen after =
    (next : List Entry) × IsAnswered o keys session_keys terms arrival octets seen next answer × IsRun o keys session_keys terms later events next after
IsRun o keys session_keys terms later (forgets clock ∷ events) seen after =
    (next : List Entry) × (clock ≤ℤ later) × IsWithout clock terms.skew seen next × IsRun o keys session_keys terms later events next after
