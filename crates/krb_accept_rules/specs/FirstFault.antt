-- Rules in an order.
use Rattle.std.specs.Prelude.{◌≡◌, ◌⊎◌, ℤ, Option, List, [], ◌∷◌}
use Rattle.krb_accept_rules.specs.Refusals.{plain}
use Rattle.krb_accept_rules.specs.declared.refusal.Refusal.{Refusal}
use Rattle.krb_accept_rules.specs.declared.refusal.Rule.{Rule}
use Rattle.krb_accept_rules.specs.declared.refusal.Rule.TheVariants as Rules

-- each of these rules holds
abbrev pub Keeps : (Rule → Type 0) → List Rule → Type 0
Keeps holds [] = Unit {0}
Keeps holds (rule ∷ rest) = holds rule × Keeps holds rest

-- this is the first of these rules that does not hold: those before it do
abbrev pub BreaksFirst : (Rule → Type 0) → List Rule → Rule → Type 0
BreaksFirst holds [] broken = ⊥
BreaksFirst holds (rule ∷ rest) broken = ((broken ≡ rule) × (holds rule → ⊥)) ⊎ (holds rule × BreaksFirst holds rest broken)

-- the refusal is by the first rule that does not hold, and shows what is to be shown of it
abbrev pub RefusesFirst : (Rule → Type 0) → (Rule → Option ℤ → Type 0) → List Rule → Refusal → Type 0
RefusesFirst holds shows order e = BreaksFirst holds order e.rule × shows e.rule e.seen

-- an allocation failed, or it is so
abbrev pub OrMemory : (Refusal → Type 0) → Refusal → Type 0
OrMemory refuses e = (e ≡ plain Rules.OutOfMemory) ⊎ refuses e
