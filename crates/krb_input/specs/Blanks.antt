-- Blanks: spaces, tabulators, line feeds and carriage returns.
use Rattle.std.specs.Prelude.{ℕ, nat_eq, Bool, not, ◌||◌, if◌then◌else◌, List, [], ◌∷◌}
use Rattle.std.specs.List.{filter}

abbrev pub is_blank : ℕ → Bool
is_blank octet = nat_eq octet 32 || nat_eq octet 9 || nat_eq octet 10 || nat_eq octet 13

-- the octets that are no blanks
abbrev pub without_blanks : List ℕ → List ℕ
without_blanks octets = filter (λ octet. not (is_blank octet)) octets

-- the octets from the first on that is no blank
abbrev pub skip_blanks : List ℕ → List ℕ
skip_blanks [] = []
skip_blanks (octet ∷ octets) = if is_blank octet then skip_blanks octets else octet ∷ octets
