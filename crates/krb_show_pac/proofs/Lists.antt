-- Lists.
use Rattle.std.proofs.Common.{◌≡◌, ℕ, ◌<◌, ◌+◌, suc, List, [], ◌∷◌, ◌++◌, sym, subst, take, drop, get_or, length}
use Rattle.std.proofs.Math.Seq.{split_at}
use Rattle.std.proofs.lemmas.List.{take_more}
use Rattle.std.specs.List.{AllByRecursion}

-- a list, cut around the item at an index
pub cut_at : {A : Type 0} (xs : List A) (i : ℕ) (x : A) → i < length xs → x ≡ get_or xs i x → xs ≡ take i xs ++ x ∷ drop (suc i) xs
cut_at xs i x lt is = subst (λ y. xs ≡ take i xs ++ y ∷ drop (suc i) xs) (sym is) (split_at xs i x lt)

-- what holds of each of these and of one more, holds of each with it
pub all_more : {A : Type 0} (P : A → Type 0) (xs : List A) (x : A) → AllByRecursion P xs → P x → AllByRecursion P (xs ++ x ∷ [])
all_more P [] x h p = (p, tt)
all_more P (y ∷ ys) x (q, h) p = (q, all_more P ys x h p)

-- one more of a list, up to an index
pub all_until : {A : Type 0} (P : A → Type 0) (xs : List A) (i : ℕ) (x : A) → i < length xs → x ≡ get_or xs i x → AllByRecursion P (take i xs) → P x
    → AllByRecursion P (take (i + 1) xs)
all_until P xs i x lt is h p = rw (take_more xs i x lt) (all_more P (take i xs) (get_or xs i x) h (subst P is p))
