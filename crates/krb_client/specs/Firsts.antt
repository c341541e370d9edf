-- The first of some that has a fact.
use Rattle.std.specs.Prelude.{◌≡◌, List, ◌∷◌, ◌++◌}
use Rattle.std.specs.List.{AllByRecursion}

-- none has it
abbrev pub NoneIs : {A : Type 0} → (A → Type 0) → List A → Type 0
NoneIs fact items = AllByRecursion (λ item. fact item → ⊥) items

-- this one has it, and none before it
pub record IsFirst {A : Type 0} (fact : A → Type 0) (items : List A) (item : A) : Type 0 where
  pub front : List A
  pub back : List A
  pub among : items ≡ front ++ item ∷ back
  pub none_before : NoneIs fact front
  pub has : fact item
