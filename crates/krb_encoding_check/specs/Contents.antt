-- Contents of primitive elements (X.690, 8.1.4).
use Rattle.std.specs.Prelude.{◌≡◌, ℕ, List}

-- the octets are the content of a value
abbrev pub Has : {A : Type 0} → (A → Type 0) → (A → List ℕ) → List ℕ → Type 0
Has {A} is_value content_of octets = (v : A) × is_value v × (octets ≡ content_of v)

-- they are the content of none
abbrev pub HasNone : {A : Type 0} → (A → Type 0) → (A → List ℕ) → List ℕ → Type 0
HasNone {A} is_value content_of octets = (v : A) → is_value v → octets ≡ content_of v → ⊥
