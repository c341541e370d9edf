-- What a mechanism means, on one side (RFC 4178, 3; RFC 2743, 2.2).
use Rattle.std.specs.Prelude.{◌≡◌, ℕ, List, Bool, false, Option}
use Rattle.krb_spnego_rules.specs.Decisions.{continues}
use Rattle.krb_spnego_rules.specs.Turns.{progress_in}
use Rattle.krb_spnego_rules.specs.declared.mechanism.Turn.{Turn}

pub record Meaning (M : Type 0) : Type 1 where
  -- the arcs of the object identifier that it is offered under
  pub oid : M → List ℕ
  -- whether an object identifier names it: its own, or one that peers use in its place
  pub names : M → List ℕ → Bool
  -- whether its context protects messages by MICs
  pub integrity : M → Bool
  -- whether octets are a first token of its own, with no negotiation around it
  pub bare : M → List ℕ → Bool
  -- its context is established
  pub established : M → Type 0
  -- of the peer's token, or of none where it begins, the context becomes this one, and this is its own turn
  pub steps : M → Option (List ℕ) → M → Turn → Type 0
  -- it refuses the peer's token
  pub refuses : M → Option (List ℕ) → Type 0
  -- under its context this MIC of the peer holds of this text
  pub holds : M → List ℕ → List ℕ → Type 0
  -- under its context this side makes this MIC of this text, and the context becomes this one
  pub makes : M → List ℕ → List ℕ → M → Type 0

-- What stays: a mechanism keeps its names, it is established once it waits for no token, and a MIC that it makes takes nothing away.
pub record IsSteady {M : Type 0} (meaning : Meaning M) : Type 0 where
  pub oid_by_steps : (a : M) (token : Option (List ℕ)) (b : M) (turn : Turn) → meaning.steps a token b turn → meaning.oid b ≡ meaning.oid a
  pub names_by_steps : (a : M) (token : Option (List ℕ)) (b : M) (turn : Turn) → meaning.steps a token b turn
      → (arcs : List ℕ) → meaning.names b arcs ≡ meaning.names a arcs
  pub established_by_steps : (a : M) (token : Option (List ℕ)) (b : M) (turn : Turn) → meaning.steps a token b turn
      → continues (progress_in turn) ≡ false → meaning.established b
  pub oid_by_makes : (a : M) (text mic : List ℕ) (b : M) → meaning.makes a text mic b → meaning.oid b ≡ meaning.oid a
  pub names_by_makes : (a : M) (text mic : List ℕ) (b : M) → meaning.makes a text mic b
      → (arcs : List ℕ) → meaning.names b arcs ≡ meaning.names a arcs
  pub established_by_makes : (a : M) (text mic : List ℕ) (b : M) → meaning.makes a text mic b → meaning.established a → meaning.established b
  pub holds_by_makes : (a : M) (text mic : List ℕ) (b : M) → meaning.makes a text mic b
      → (other peer : List ℕ) → meaning.holds a other peer → meaning.holds b other peer
