-- Arguments as words.
use Rattle.std.specs.Prelude.{ℕ, nat_eq, ◌==◌, Bool, true, false, ◌||◌, ◌&&◌, if◌then◌else◌, Option, Some, None, List, [], ◌∷◌, codes}
use Rattle.std.specs.Cmp.Lexicographic.{pointwise}
use Rattle.std.specs.List.{after_first, before_first}

-- whether an argument is this word
abbrev pub is_word : List ℕ → List ℕ → Bool
is_word argument word = pointwise nat_eq argument word

abbrev pub is_help : List ℕ → Bool
is_help argument = is_word argument (codes "--help") || is_word argument (codes "-h")

-- behind this stands no option (POSIX.1-2017, XBD 12.2, guideline 10)
abbrev pub ends_options : List ℕ → Bool
ends_options argument = is_word argument (codes "--")

-- `OPTION=VALUE` in one argument: what stands before its first `=` (61), and what stands behind it
abbrev pub name_of : List ℕ → List ℕ
name_of argument = before_first (λ octet. octet == 61) argument

abbrev pub value_of : List ℕ → List ℕ
value_of argument = after_first (λ octet. octet == 61) argument

-- what is read: `-` stands for standard input (XBD 12.2, guideline 13), which no name stands for too
abbrev pub input : List ℕ → Option (List ℕ)
input argument = if is_word argument (codes "-") then None else Some argument

-- whether an argument begins with `-` (45) and has more octets: it is an option
abbrev pub is_option : List ℕ → Bool
is_option [] = false
is_option (first ∷ []) = false
is_option (first ∷ next ∷ rest) = nat_eq first 45

-- what is read by an argument that is no option and not empty
abbrev pub named : List ℕ → Option (Option (List ℕ))
named [] = None
named (first ∷ rest) = if is_option (first ∷ rest) then None else Some (input (first ∷ rest))

-- what is read by an argument behind the end of the options
abbrev pub named_behind : List ℕ → Option (Option (List ℕ))
named_behind [] = None
named_behind (first ∷ rest) = Some (input (first ∷ rest))
