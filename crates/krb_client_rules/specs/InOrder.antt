-- Rules in an order.
use Rattle.std.specs.Prelude.{◌≡◌, ◌⊎◌, List, [], ◌∷◌}
use Rattle.krb_client_rules.specs.declared.mismatch.Mismatch.{Mismatch}

-- each of these rules holds
abbrev pub Keeps : (Mismatch → Type 0) → List Mismatch → Type 0
Keeps holds [] = Unit {0}
Keeps holds (rule ∷ rest) = holds rule × Keeps holds rest

-- this is the first of these rules that does not hold: those before it do
abbrev pub BreaksFirst : (Mismatch → Type 0) → List Mismatch → Mismatch → Type 0
BreaksFirst holds [] broken = ⊥
BreaksFirst holds (rule ∷ rest) broken = ((broken ≡ rule) × (holds rule → ⊥)) ⊎ (holds rule × BreaksFirst holds rest broken)
