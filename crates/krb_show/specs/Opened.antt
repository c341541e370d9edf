-- Octet strings that hold encodings.
use Rattle.std.specs.Prelude.{◌≡◌, ◌≢◌, ℕ, ℤ, pos, List, ◌⊎◌}
use Rattle.krb_show.specs.Leaves.{octets_of}
use Rattle.krb_show.specs.Tokens.{Label, Token}

-- the octets are the encoding of this value, and of no value
abbrev pub IsOf : {A : Type 0} → (A → Type 0) → (A → List ℕ) → List ℕ → A → Type 0
IsOf is_value enc octets v = is_value v × (octets ≡ enc v)

abbrev pub IsNone : {A : Type 0} → (A → Type 0) → (A → List ℕ) → List ℕ → Type 0
IsNone {A} is_value enc octets = (v : A) → is_value v → octets ≡ enc v → ⊥

-- what octets add that are the encoding of a value, and what they add where they are of none
abbrev pub opened_or : {A : Type 0} → (A → Type 0) → (A → List ℕ) → (A → List Token → List Token → Type 0) → (List Token → List Token → Type 0) → List ℕ
    → List Token → List Token → Type 0
opened_or {A} is_value enc shows other octets old new =
    ((v : A) × is_value v × (octets ≡ enc v) × shows v old new) ⊎ (IsNone is_value enc octets × other old new)

-- the one for this number, the other for each other number
abbrev pub by_number : ℤ → ℕ → (List Token → List Token → Type 0) → (List Token → List Token → Type 0) → List Token → List Token → Type 0
by_number number wanted this other old new = ((number ≡ pos wanted) × this old new) ⊎ ((number ≢ pos wanted) × other old new)

-- octets that are the encoding of a value are shown as that value, and others as octets
abbrev pub opened_by : {A : Type 0} → (A → Type 0) → (A → List ℕ) → (Label → A → List Token → List Token → Type 0) → Label → List ℕ
    → List Token → List Token → Type 0
opened_by is_value enc shows label octets = opened_or is_value enc (shows label) (octets_of label octets) octets
