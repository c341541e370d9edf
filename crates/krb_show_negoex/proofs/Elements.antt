-- Elements that are taken one after another.
use Rattle.std.proofs.Common.{◌≡◌, ℕ, zero, suc, ◌+◌, ◌<◌, List, [], ◌∷◌, ◌++◌, length, take, Some, None, slice_get, sym, ap, ◌∙◌, arith}
use Rattle.std.proofs.lemmas.List.{take_more}
use Rattle.std.proofs.lemmas.Option.{get_or_from_slice_get, slice_get_within}

pub taken_more : {A : Type 0} (xs : List A) (n : ℕ) (x : A) → Some x ≡ slice_get xs n → take (n + 1) xs ≡ take n xs ++ x ∷ []
taken_more xs n x e = take_more xs n x (slice_get_within xs n x (sym e)) ∙ ap (λ z. take n xs ++ z ∷ []) (get_or_from_slice_get xs n x x (sym e))

pub some_there : {A : Type 0} (xs : List A) (n : ℕ) → n < length xs → None ≡ slice_get xs n → ⊥
some_there [] n h e = omega (arith, h)
some_there (x ∷ xs) zero h e = absurd cc
some_there (x ∷ xs) (suc n) h e = some_there xs n (omega (arith, h)) e
