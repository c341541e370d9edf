-- Names that one may have been meant as.
use Rattle.std.specs.Prelude.{ℕ, nat_eq, ◌||◌, ◌&&◌, Bool, not, if◌then◌else◌, List, [], ◌∷◌, ◌++◌, codes, length, map, take}
use Rattle.std.specs.Char.{to_ascii_lowercase}
use Rattle.std.specs.Cmp.Lexicographic.{pointwise}
use Rattle.std.specs.List.{filter}
use Rattle.krb_show_pages.specs.Types.{applications, type_names}

-- a hyphen (45) or a low line (95)
abbrev pub is_mark : ℕ → Bool
is_mark octet = nat_eq octet 45 || nat_eq octet 95

-- a name without these, its letters in lower case
abbrev pub plain_of : List ℕ → List ℕ
plain_of name = map to_ascii_lowercase (filter (λ octet. not (is_mark octet)) name)

-- the first four octets of that
abbrev pub front_of : List ℕ → List ℕ
front_of name = take 4 (plain_of name)

-- whether a name has this front, of four octets
abbrev pub is_near : List ℕ → List ℕ → Bool
is_near front name = nat_eq (length front) 4 && pointwise nat_eq (front_of name) front

-- the names that have this front, each as a question
abbrev pub near_text : List ℕ → List (List ℕ) → List ℕ
near_text front [] = []
near_text front (name ∷ rest) = (if is_near front name then codes " " ++ name ++ codes "?" else []) ++ near_text front rest

-- the same of rows of a number and a name
abbrev pub near_rows : List ℕ → List (ℕ × List ℕ) → List ℕ
near_rows front [] = []
near_rows front (row ∷ rest) = (if is_near front row.1 then codes " " ++ row.1 ++ codes "?" else []) ++ near_rows front rest

-- the kinds that are no types of DER, and have one name
unfoldable pub formats : List (List ℕ)
formats = codes "token" ∷ codes "PAC" ∷ codes "NEGOEX" ∷ codes "password-frame" ∷ codes "keytab" ∷ codes "ccache" ∷ []

-- the names of kinds that begin with the same four letters and digits as this name, each as a question
abbrev pub near_names : List ℕ → List ℕ
near_names name = near_rows (front_of name) applications ++ near_text (front_of name) formats ++ near_text (front_of name) type_names

-- what is said of a name that no kind has: these, or where names stand
abbrev pub hint_text : List ℕ → List ℕ
hint_text name = if nat_eq (length (near_names name)) 0 then codes "see jolmurig show --help" else codes "did you mean" ++ near_names name
