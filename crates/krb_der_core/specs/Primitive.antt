-- The contents of the simple leaves.
use Rattle.std.specs.Prelude.{ℕ, Bool, true, false, List, [], ◌∷◌}

-- BOOLEAN (X.690, 8.2 and 11.1): all ones, or all zeros
abbrev pub bool_content : Bool → List ℕ
bool_content true = 255 ∷ []
bool_content false = 0 ∷ []
