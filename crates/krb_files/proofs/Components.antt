-- What holds of the octets of each component.
use Rattle.std.proofs.Common.{ℕ, ◌<◌, List, [], ◌∷◌, length, map, All, get_or}
use Rattle.std.specs.List.{AllByRecursion}
use Rattle.std.proofs.lemmas.List.Elements.{All-from_recursion, recursion_from_All, All-map}

under : {X Y : Type 0} (P : Y → Type 0) (f : X → Y) (xs : List X) → AllByRecursion P (map f xs) → AllByRecursion (λ x. P (f x)) xs
under P f [] h = tt
under P f (x ∷ xs) h = (h.0, under P f xs h.1)

pub component_fits : {X Y : Type 0} (P : Y → Type 0) (f : X → Y) (xs : List X) (i : ℕ) (d : X) → i < length xs → AllByRecursion P (map f xs) → P (f (get_or xs i d))
component_fits P f xs i d lt h = All-from_recursion (λ x. P (f x)) xs (under P f xs h) i d lt

pub components_fit : {X Y : Type 0} (P : Y → Type 0) (f : X → Y) (xs : List X) → All (λ x. P (f x)) xs → AllByRecursion P (map f xs)
components_fit P f xs h = recursion_from_All P (map f xs) (All-map P f xs h)
