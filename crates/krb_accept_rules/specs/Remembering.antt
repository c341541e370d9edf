-- What a cache remembers (RFC 4120, 3.2.3): a set of entries.
use Rattle.std.specs.Prelude.{◌≡◌, ◌⊎◌, ℕ, ℤ, pos, ◌+ℤ◌, ◌≤ℤ◌, List, [], ◌∷◌}
use Rattle.krb_accept_rules.specs.Names.{IsAmong}
use Rattle.krb_accept_rules.specs.declared.cache.Entry.{Entry}

-- the entry is there, and what was there; nothing else is
pub record IsWith (seen : List Entry) (e : Entry) (after : List Entry) : Type 0 where
  pub there : IsAmong after e
  pub stays : (x : Entry) → IsAmong seen x → IsAmong after x
  pub only : (x : Entry) → IsAmong after x → IsAmong seen x ⊎ (x ≡ e)

-- the entry's time is no more than the skew before the clock
abbrev pub IsKept : ℤ → ℕ → Entry → Type 0
IsKept clock skew e = clock ≤ℤ (e.seconds +ℤ pos skew)

-- what was there and is kept is there; nothing else is
pub record IsWithout (clock : ℤ) (skew : ℕ) (seen after : List Entry) : Type 0 where
  pub stays : (x : Entry) → IsAmong seen x → IsKept clock skew x → IsAmong after x
  pub was : (x : Entry) → IsAmong after x → IsAmong seen x
  pub kept : (x : Entry) → IsAmong after x → IsKept clock skew x

-- what happens to a cache: an entry is recorded, or old ones are forgotten at a time of the clock
pub data Step : Type 0 where
  records : Entry → Step
  forgets : ℤ → Step

-- this step
abbrev pub IsStep : ℕ → Step → List Entry → List Entry → Type 0
IsStep skew (records e) seen after = IsWith seen e after
IsStep skew (forgets clock) seen after = IsWithout clock skew seen after

-- no later than this
abbrev pub IsBefore : ℤ → Step → Type 0
IsBefore later (records e) = Unit {0}
IsBefore later (forgets clock) = clock ≤ℤ later

-- one step after the other; nothing is forgotten at a clock later than this
abbrev pub IsHistory : ℕ → ℤ → List Step → List Entry → List Entry → Type 0
IsHistory skew later [] seen after = after ≡ seen
IsHistory skew later (step ∷ steps) seen after =
    (next : List Entry) × IsBefore later step × IsStep skew step seen next × IsHistory skew later steps next after
