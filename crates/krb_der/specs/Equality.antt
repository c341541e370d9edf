-- When a comparison is true.
use Rattle.std.specs.Prelude.{◌≡◌, ◌↔◌, Bool, IsTrue}

-- the test is true for equal values and for no others
abbrev pub DecidesEqual : {A : Type 0} → (A → A → Bool) → Type 0
DecidesEqual {A} eq = (a b : A) → IsTrue (eq a b) ↔ (a ≡ b)

-- a clone equals its original
abbrev pub ClonesValue : {A : Type 0} → (A → A → Type 0) → Type 0
ClonesValue {A} is_clone = (a b : A) → is_clone a b → b ≡ a
