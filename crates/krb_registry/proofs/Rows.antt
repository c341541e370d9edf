-- From the rows of the code to those of the definition.
use Rattle.std.proofs.Common.{◌≡◌, ℕ, ℤ, ◌<◌, ◌≤◌, List, Bor, All, map, length, slice_index_or, subst, arith}
use Rattle.std.proofs.lemmas.List.Elements.{All-map}

abbrev pub as_row : ℤ × Bor (List ℕ) → ℤ × List ℕ
as_row row = (row.0, row.1.now)

abbrev pub as_mechanism : Bor (List ℕ) × Bor (List ℕ) → List ℕ × List ℕ
as_mechanism row = (row.0.now, row.1.now)

-- what holds of each row that was looked at holds of all, once all were
pub of_all : {X Y : Type 0} (f : X → Y) (P : Y → Type 0) (items : List X) (rows : List Y) (n : ℕ) → map f items ≡ rows → length items ≤ n
    → ((k : ℕ) (d : X) → k < n → P (f (slice_index_or items k d))) → All P rows
of_all f P items rows n e le each =
    let each_item : All (λ x. P (f x)) items = λ k d lt. each k d (omega arith) in
    subst (All P) e (All-map P f items each_item)
