-- Whole runs of an exchange: octets of the KDC, one message after another (RFC 4120, 3.1 and 3.3).
use Rattle.std.specs.Prelude.{◌≡◌, ℕ, ◌+◌, List, [], ◌∷◌}
use Rattle.krb_client.specs.declared.moment.Moment.{Moment}

-- calls, one after another, each of which takes an exchange to the next
abbrev pub Runs : {E C : Type 0} → (E → C → E → Type 0) → E → List C → E → Type 0
Runs steps e [] after = after ≡ e
Runs steps e (call ∷ calls) after = (next : _) × (steps e call next × Runs steps next calls after)

-- how many requests they make, by how many each makes
abbrev pub sent_by : {C : Type 0} → (C → ℕ) → List C → ℕ
sent_by sent [] = 0
sent_by sent (call ∷ calls) = sent call + sent_by sent calls

-- a request that was sent, and the moment of the call that made it
pub record Sent : Type 0 where
  pub moment : Moment
  pub request : List ℕ

-- the last one after these calls, where this was the last one before them
abbrev pub last_sent : {C : Type 0} → (Sent → C → Sent) → Sent → List C → Sent
last_sent after sent [] = sent
last_sent after sent (call ∷ calls) = last_sent after (after sent call) calls
