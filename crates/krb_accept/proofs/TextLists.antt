-- Components that are no texts.
use Rattle.std.proofs.Common.{◌≡◌, ℕ, ◌<◌, suc, Bool, true, false, ◌&&◌, List, [], ◌∷◌, ◌++◌, refl, sym, ap, subst, ◌∙◌, length, map, take, drop, get_or}
use Rattle.std.proofs.Math.Seq.{split_at}
use Rattle.std.specs.List.{list_all}

and_false : (b : Bool) → (b && false) ≡ false
and_false true = refl
and_false false = refl

false_at : {A : Type 0} (f : List ℕ → Bool) (g : A → List ℕ) (front back : List A) (x : A) → f (g x) ≡ false → list_all f (map g (front ++ x ∷ back)) ≡ false
false_at f g [] back x h = ap (λ b. b && list_all f (map g back)) h
false_at f g (y ∷ front) back x h = ap (λ b. f (g y) && b) (false_at f g front back x h) ∙ and_false (f (g y))

-- where the one at an index is none, they are not all texts
pub not_all : {A : Type 0} (f : List ℕ → Bool) (g : A → List ℕ) (xs : List A) (i : ℕ) (d : A) → i < length xs → f (g (get_or xs i d)) ≡ false → list_all f (map g xs) ≡ false
not_all f g xs i d lt h = subst (λ ys. list_all f (map g ys) ≡ false) (sym (split_at xs i d lt)) (false_at f g (take i xs) (drop (suc i) xs) (get_or xs i d) h)
