-- The end of the fields of a sequence.
use Rattle.std.specs.Prelude.{ℕ, Bool, false}

-- nothing follows
abbrev pub nothing : ℕ → Bool
nothing t = false
