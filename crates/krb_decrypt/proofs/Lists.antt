-- Lists.
use Rattle.std.proofs.Common.{◌≡◌, ℕ, ◌<◌, suc, List, ◌∷◌, ◌++◌, sym, subst, length, take, drop, get_or}
use Rattle.std.proofs.Math.Seq.{split_at}

-- a list, cut around the item at an index
pub cut_at : {A : Type 0} (xs : List A) (i : ℕ) (x : A) → i < length xs → x ≡ get_or xs i x → xs ≡ take i xs ++ x ∷ drop (suc i) xs
cut_at xs i x lt is = subst (λ y. xs ≡ take i xs ++ y ∷ drop (suc i) xs) (sym is) (split_at xs i x lt)
