-- The first of some.
use Rattle.std.proofs.Common.{◌≡◌, ℕ, ◌<◌, suc, List, [], ◌∷◌, ◌++◌, refl, sym, subst, ◌∙◌, length, take, drop, get_or}
use Rattle.std.proofs.Math.Seq.{split_at}
use Rattle.krb_accept_rules.specs.Firsts.{EachIs, IsFirst, NoneIs, OneIs}
use Rattle.krb_accept_rules.specs.Names.{IsAmong}

-- a list, cut around the item at an index
pub cut_at : {A : Type 0} (xs : List A) (i : ℕ) (x : A) → i < length xs → x ≡ get_or xs i x → xs ≡ take i xs ++ x ∷ drop (suc i) xs
cut_at xs i x lt is = subst (λ y. xs ≡ take i xs ++ y ∷ drop (suc i) xs) (sym is) (split_at xs i x lt)

-- where none has the fact, the one between front and back has not
pub none_at : {A : Type 0} (fact : A → Type 0) (front back : List A) (item : A) → NoneIs fact (front ++ item ∷ back) → fact item → ⊥
none_at fact [] back item (n, rest) h = n h
none_at fact (x ∷ front) back item (n, rest) h = none_at fact front back item rest h

-- and there is no first one
pub none_first : {A : Type 0} (fact : A → Type 0) (items : List A) → NoneIs fact items → OneIs fact items → ⊥
none_first fact items none one = none_at fact one.1.front one.1.back one.0 (subst (NoneIs fact) one.1.among none) one.1.has

heads : {A : Type 0} (x y : A) (xs ys : List A) → x ∷ xs ≡ y ∷ ys → x ≡ y
heads x y xs ys e = cc

tails : {A : Type 0} (x y : A) (xs ys : List A) → x ∷ xs ≡ y ∷ ys → xs ≡ ys
tails x y xs ys e = cc

same_first : {A : Type 0} (fact : A → Type 0) (f g back rest : List A) (a b : A) → f ++ a ∷ back ≡ g ++ b ∷ rest → NoneIs fact f → NoneIs fact g → fact a → fact b → a ≡ b
same_first fact [] [] back rest a b e m n h k = heads a b back rest e
same_first fact [] (y ∷ g) back rest a b e m (n, ns) h k = absurd (n (subst fact (heads a y back (g ++ b ∷ rest) e) h))
same_first fact (x ∷ f) [] back rest a b e (m, ms) n h k = absurd (m (subst fact (sym (heads x b (f ++ a ∷ back) rest e)) k))
same_first fact (x ∷ f) (y ∷ g) back rest a b e (m, ms) (n, ns) h k =
    same_first fact f g back rest a b (tails x y (f ++ a ∷ back) (g ++ b ∷ rest) e) ms ns h k

-- there is one first
pub one_first : {A : Type 0} (fact : A → Type 0) (items : List A) (a b : A) → IsFirst fact items a → IsFirst fact items b → a ≡ b
one_first fact items a b p q = same_first fact p.front q.front p.back q.back a b (sym p.among ∙ q.among) p.none_before q.none_before p.has q.has

-- what is found at an index is among the items
pub among_at : {A : Type 0} (xs : List A) (i : ℕ) (x y : A) → i < length xs → x ≡ get_or xs i x → x ≡ y → IsAmong xs y
among_at xs i x y lt is same = record {
  front = take i xs;
  back = drop (suc i) xs;
  among = subst (λ z. xs ≡ take i xs ++ z ∷ drop (suc i) xs) same (cut_at xs i x lt is);
}

-- what none of the items is, is not among them
pub none_among : {A : Type 0} (xs : List A) (y : A) → NoneIs (λ x. x ≡ y) xs → IsAmong xs y → ⊥
none_among xs y none h = none_at (λ x. x ≡ y) h.front h.back y (subst (NoneIs (λ x. x ≡ y)) h.among none) refl

-- where each has the fact, the one between front and back has it
pub each_at : {A : Type 0} (fact : A → Type 0) (front back : List A) (item : A) → EachIs fact (front ++ item ∷ back) → fact item
each_at fact [] back item (h, rest) = h
each_at fact (x ∷ front) back item (h, rest) = each_at fact front back item rest

-- and so has the one at an index
pub each_in : {A : Type 0} (fact : A → Type 0) (xs : List A) (i : ℕ) (x : A) → i < length xs → x ≡ get_or xs i x → EachIs fact xs → fact x
each_in fact xs i x lt is all = each_at fact (take i xs) (drop (suc i) xs) x (subst (EachIs fact) (cut_at xs i x lt is) all)

-- the number at an index, where it has the fact and none before it
pub first_at : (fact : ℕ → Type 0) (xs : List ℕ) (i : ℕ) → i < length xs → NoneIs fact (take i xs) → fact (get_or xs i 0) → OneIs fact xs
first_at fact xs i lt none has = (
  get_or xs i 0,
  record {
    front = take i xs;
    back = drop (suc i) xs;
    among = split_at xs i 0 lt;
    none_before = none;
    has = has;
  },
)
