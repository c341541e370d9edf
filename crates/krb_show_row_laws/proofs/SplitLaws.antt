-- Octets that all pass a test, up to one that does not.
use Rattle.std.proofs.Common.{◌≡◌, ℕ, Bool, true, false, ◌&&◌, refl, sym, ap, subst, ◌∙◌, List, [], ◌∷◌, ◌++◌, get_or, drop}
use Rattle.krb_show_row_laws.specs.Telling.{all_of, Stops}

pub and_left : (a b : Bool) → a && b ≡ true → a ≡ true
and_left true b h = refl
and_left false b h = h

pub and_right : (a b : Bool) → a && b ≡ true → b ≡ true
and_right true b h = h
and_right false b h = absurd (cc)

pub and_both : (a b : Bool) → a ≡ true → b ≡ true → a && b ≡ true
and_both true b h k = k
and_both false b h k = h

-- lists of one first element and one rest
pub head : (x y : ℕ) (a b : List ℕ) → x ∷ a ≡ y ∷ b → x ≡ y
head x y a b e = ap (λ l. get_or l 0 0) e

pub tail : {A : Type 0} (x y : A) (a b : List A) → x ∷ a ≡ y ∷ b → a ≡ b
tail {A} x y a b e = ap (λ (l : List A). drop 1 l) e

-- what passes is what stands before what stops
pub split : (test : ℕ → Bool) (xs ys r s : List ℕ) → all_of test xs ≡ true → all_of test ys ≡ true → Stops test r → Stops test s → xs ++ r ≡ ys ++ s
    → (xs ≡ ys) × (r ≡ s)
split test [] [] r s h k f g e = (refl, e)
split test [] (y ∷ ys) r s h k f g e =
    let stop : test y ≡ false = subst (Stops test) e f in
    let pass = and_left (test y) (all_of test ys) k in absurd (cc)
split test (x ∷ xs) [] r s h k f g e =
    let stop : test x ≡ false = subst (Stops test) (sym e) g in
    let pass = and_left (test x) (all_of test xs) h in absurd (cc)
split test (x ∷ xs) (y ∷ ys) r s h k f g e =
    let rest = split test xs ys r s (and_right (test x) (all_of test xs) h) (and_right (test y) (all_of test ys) k) f g (tail x y (xs ++ r) (ys ++ s) e) in
    (ap (λ z. z ∷ xs) (head x y (xs ++ r) (ys ++ s) e) ∙ ap (λ (l : List ℕ). y ∷ l) rest.0, rest.1)

pub all_append : (test : ℕ → Bool) (xs ys : List ℕ) → all_of test xs ≡ true → all_of test ys ≡ true → all_of test (xs ++ ys) ≡ true
all_append test [] ys h k = k
all_append test (x ∷ xs) ys h k =
    and_both (test x) (all_of test (xs ++ ys)) (and_left (test x) (all_of test xs) h) (all_append test xs ys (and_right (test x) (all_of test xs) h) k)

-- what passes one test passes a weaker one
pub all_weaker : (test weaker : ℕ → Bool) → ((x : ℕ) → test x ≡ true → weaker x ≡ true) → (xs : List ℕ) → all_of test xs ≡ true → all_of weaker xs ≡ true
all_weaker test weaker w [] h = h
all_weaker test weaker w (x ∷ xs) h =
    and_both (weaker x) (all_of weaker xs) (w x (and_left (test x) (all_of test xs) h)) (all_weaker test weaker w xs (and_right (test x) (all_of test xs) h))
