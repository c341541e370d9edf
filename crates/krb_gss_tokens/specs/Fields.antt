-- How it is determined whether an optional field is there, whatever follows it (draft-ietf-kitten-iakerb-03, 3; X.690, 8.1.2).
use Rattle.std.specs.Prelude.{◌≡◌, ◌↔◌, ℕ, List, [], ◌∷◌, Option, IsSome}

-- there is a first octet, and it is this one
abbrev pub Begins : ℕ → List ℕ → Type 0
Begins tag [] = ⊥
Begins tag (b ∷ bs) = b ≡ tag

-- The field is there exactly where the octets, which are its own and those after it, begin with its tag.
abbrev pub IsDetermined : {A : Type 0} → ℕ → Option A → List ℕ → Type 0
IsDetermined tag v octets = IsSome v ↔ Begins tag octets
