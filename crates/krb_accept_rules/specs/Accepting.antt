-- Whether a client is let in (RFC 4120, 3.2.3).
use Rattle.std.specs.Prelude.{◌≡◌, ◌⊎◌, ℕ, List}
use Rattle.krb_accept_rules.specs.FirstFault.{OrMemory}
use Rattle.krb_accept_rules.specs.Names.{IsAmong}
use Rattle.krb_accept_rules.specs.Presenting.{IsNotPresented, IsPresented}
use Rattle.krb_accept_rules.specs.Refusals.{plain}
use Rattle.krb_accept_rules.specs.Remembering.{IsWith}
use Rattle.krb_accept_rules.specs.Times.{IsOfWhole}
use Rattle.krb_accept_rules.specs.declared.accepted.Accepted.{Accepted}
use Rattle.krb_accept_rules.specs.declared.cache.Entry.{Entry}
use Rattle.krb_accept_rules.specs.declared.key.ServiceKey.{ServiceKey}
use Rattle.krb_accept_rules.specs.declared.opening.Opening.{Ghosts as OpeningOf}
use Rattle.krb_accept_rules.specs.declared.refusal.Refusal.{Refusal}
use Rattle.krb_accept_rules.specs.declared.refusal.Rule.TheVariants as Rules
use Rattle.krb_accept_rules.specs.declared.terms.Arrival.{Arrival}
use Rattle.krb_accept_rules.specs.declared.terms.Terms.{Terms}

-- ---- what was presented, and the cache

-- the cache would have it, had it been accepted before; it has not; and from now on it has
pub record IsAdmitted (terms : Terms) (entry : Entry) (seen after : List Entry) : Type 0 where
  pub whole : IsOfWhole terms.whole_since terms.skew entry.seconds
  pub is_new : IsAmong seen entry → ⊥
  pub remembered : IsWith seen entry after

-- it may have been accepted before the cache was whole; or it was accepted before
abbrev pub IsNotAdmitted : Terms → Entry → List Entry → Refusal → Type 0
IsNotAdmitted terms entry seen e =
    ((e ≡ plain Rules.Unremembered) × (IsOfWhole terms.whole_since terms.skew entry.seconds → ⊥))
    ⊎ ((e ≡ plain Rules.Repeat) × IsOfWhole terms.whole_since terms.skew entry.seconds × IsAmong seen entry)

-- ---- octets, and the cache

-- they present this, and it is admitted
pub record IsAccepted {O : Type 0} (o : OpeningOf O) (keys session_keys : List ServiceKey) (terms : Terms) (arrival : Arrival) (octets : List ℕ)
    (seen after : List Entry) (a : Accepted) : Type 0 where
  pub key : ServiceKey
  pub entry : Entry
  pub presented : IsPresented o keys session_keys terms arrival octets key entry a
  pub admitted : IsAdmitted terms entry seen after

-- they present this, and it is not admitted
pub record IsTurnedAway {O : Type 0} (o : OpeningOf O) (keys session_keys : List ServiceKey) (terms : Terms) (arrival : Arrival) (octets : List ℕ)
    (seen : List Entry) (e : Refusal) : Type 0 where
  pub key : ServiceKey
  pub entry : Entry
  pub told : Accepted
  pub presented : IsPresented o keys session_keys terms arrival octets key entry told
  pub refused : IsNotAdmitted terms entry seen e

-- Why the client is not let in, by the first rule that is broken; or an allocation failed.
abbrev pub IsRefused : {O : Type 0} → OpeningOf O → List ServiceKey → List ServiceKey → Terms → Arrival → List ℕ → List Entry → Refusal → Type 0
IsRefused o keys session_keys terms arrival octets seen =
    OrMemory (λ e. IsNotPresented o keys session_keys terms arrival octets e ⊎ IsTurnedAway o keys session_keys terms arrival octets seen e)
