-- The numbers of names.
use Rattle.std.specs.Prelude.{◌==◌, ℕ, List, Option}
use Rattle.std.specs.List.{position_from}
use Rattle.std.specs.Cmp.Lexicographic.{pointwise}

-- the first of these names from this number on that is this one
abbrev pub number_from : ℕ → List (List ℕ) → List ℕ → Option ℕ
number_from n names name = position_from (λ other. pointwise ◌==◌ other name) n names
