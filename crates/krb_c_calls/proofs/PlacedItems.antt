-- Items put one behind the other to the front of others.
use Rattle.std.proofs.Common.{◌≡◌, ℕ, zero, suc, ◌+◌, ◌<◌, List, [], ◌∷◌, ◌++◌, length, take, drop, ap, refl, arith, slice_set, get_or, add-one}
use Rattle.std.specs.Prelude.{map}

pub placed : {A B : Type 0} (f : A → B) (from : List A) (before : List B) (n : ℕ) (x : A) → n < length from → n < length before
    → slice_set (map f (take n from) ++ drop n before) n (f (get_or from n x)) ≡ map f (take (n + 1) from) ++ drop (n + 1) before
placed f [] before n x within room = absurd (omega arith)
placed f (a ∷ from) [] n x within room = absurd (omega arith)
placed f (a ∷ from) (b ∷ before) zero x within room = refl
placed {B = B} f (a ∷ from) (b ∷ before) (suc n) x within room =
    let e = placed f from before n x (omega arith) (omega arith) in
    let more = rw (add-one n) at e in
    rw (add-one (suc n)) (ap (λ (l : List B). f a ∷ l) more)
