-- The table of Kerberos passes the test.
use Rattle.std.specs.Prelude.{ℕ, zero, suc, Bool, true, ◌&&◌, List, [], ◌∷◌}
use Rattle.krb_show_row_laws.specs.Firsts.{Kinds, of_leaf}

-- octets of formats that are no DER are shown as octets
abbrev pub as_octets : Kinds
as_octets role number = of_leaf ∷ []

abbrev pub every_row : ℕ → Bool
every_row is = true

abbrev pub each_below : (ℕ → Bool) → ℕ → Bool
each_below test zero = true
each_below test (suc n) = test n && each_below test n

-- the rows of all these types pass
abbrev pub every_type : (ℕ → Bool) → List (List ℕ × ℕ) → Bool
every_type test [] = true
every_type test (row ∷ rows) = test row.1 && every_type test rows
