-- How many octets at the front of a text pass a test.
use Rattle.std.proofs.Common.{ℕ, ◌+◌, ◌≤◌, Bool, true, false, cond, List, [], ◌∷◌, length, arith}
use Rattle.std.specs.List.{prefix_len}

pub prefix_within : (p : ℕ → Bool) (text : List ℕ) → prefix_len p text ≤ length text
prefix_within p [] = omega arith
prefix_within p (o ∷ text) =
    let within = prefix_within p text in
    elim (p o) as (λ b. cond b (1 + prefix_len p text) 0 ≤ length (o ∷ text)) [ true ↦ omega arith | false ↦ omega arith ]
