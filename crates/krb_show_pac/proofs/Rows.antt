-- From the rows of the code to those of the definition.
use Rattle.std.proofs.Common.{◌≡◌, ℕ, List, [], ◌++◌, Bor, map, sym, ap, ◌∙◌}
use Rattle.std.specs.List.{flat_map}
use Rattle.std.proofs.lemmas.List.Folds.{flat_map-map}
use Rattle.krb_show_pac.specs.Flags.{flag_names, name_if_set}

abbrev pub as_row : ℕ × Bor (List ℕ) → ℕ × List ℕ
as_row row = (row.0, row.1.now)

-- the names among the code's rows, behind nothing, are those of the table that they are
pub names_of_rows : (before : List ℕ) (items : List (ℕ × Bor (List ℕ))) (rows : List (ℕ × List ℕ)) (number : ℕ) → before ≡ [] → map as_row items ≡ rows
    → before ++ flat_map (λ row. name_if_set number (row.0, row.1.now)) items ≡ flag_names rows number
names_of_rows before items rows number none e =
    ap (λ (b : List ℕ). b ++ flat_map (λ row. name_if_set number (as_row row)) items) none
    ∙ (sym (flat_map-map (name_if_set number) as_row items) ∙ ap (flat_map (name_if_set number)) e)
