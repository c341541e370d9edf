-- Servers and realms, text by text.
use Rattle.std.proofs.Common.{◌≡◌, inl, inr, ℕ, zero, suc, ◌+◌, ◌<◌, List, [], ◌∷◌, ◌++◌, length, map, take, get_or, sym, ap, subst, arith, Bor, Result, Ok, Err, IfErr}
use Rattle.std.specs.Result.{IsErrAnd}
use Rattle.std.proofs.lemmas.List.{map_more}
use Rattle.krb_c_calls.specs.declared.call_error.CallError.{CallError}
use Rattle.krb_c_accept.specs.Names.{AreEach, HasOne}
use Rattle.krb_c_accept.specs.Refusing.{IsMemoryOrInvalid}

each_push : {A B : Type 0} (is : A → B → Type 0) (xs : List A) (ys : List B) (x : A) (y : B) → AreEach is xs ys → is x y → AreEach is (xs ++ x ∷ []) (ys ++ y ∷ [])
each_push is [] [] x y h f = (f, tt)
each_push is [] (z ∷ ys) x y h f = absurd h
each_push is (w ∷ xs) [] x y h f = absurd h
each_push is (w ∷ xs) (z ∷ ys) x y h f = (h.0, each_push is xs ys x y h.1 f)

texts_one : (is : List ℕ → Type 0) (xs : List (Bor (List ℕ))) (i : ℕ) (x : Bor (List ℕ)) → i < length xs → is (get_or xs i x).now → HasOne is (map (λ t. t.now) xs)
texts_one is [] i x less f = absurd (omega (arith, less))
texts_one is (y ∷ xs) zero x less f = inl f
texts_one is (y ∷ xs) (suc i) x less f = inr (texts_one is xs i x (omega (arith, less)) f)

-- one more name
pub each_more : {B : Type 0} (is : List ℕ → B → Type 0) (xs : List (Bor (List ℕ))) (ys now : List B) (i : ℕ) (d : Bor (List ℕ)) (y : B) → i < length xs
    → AreEach is (map (λ t. t.now) (take i xs)) ys → is (get_or xs i d).now y → now ≡ ys ++ y ∷ [] → AreEach is (map (λ t. t.now) (take (i + 1) xs)) now
each_more is xs ys now i d y less h f e =
    subst (AreEach is (map (λ t. t.now) (take (i + 1) xs))) (sym e)
    (subst (λ l. AreEach is l (ys ++ y ∷ [])) (sym (map_more (λ t. t.now) xs i d less)) (each_push is (map (λ t. t.now) (take i xs)) ys (get_or xs i d).now y h f))

-- a text that is taken by none
refused_one : (is : List ℕ → Type 0) (xs : List (Bor (List ℕ))) (i : ℕ) (d : Bor (List ℕ)) (e : CallError) → i < length xs → IsMemoryOrInvalid (is (get_or xs i d).now) e
    → IsMemoryOrInvalid (HasOne is (map (λ t. t.now) xs)) e
refused_one is xs i d e less (inl h) = inl h
refused_one is xs i d e less (inr h) = inr (h.0, texts_one is xs i d less h.1)

-- the same of what is answered then
pub refused_so : {B : Type 0} (is : List ℕ → Type 0) (xs : List (Bor (List ℕ))) (i : ℕ) (d : Bor (List ℕ)) (e : CallError) (r : Result B CallError) → i < length xs
    → IsMemoryOrInvalid (is (get_or xs i d).now) e → IsErrAnd r (λ x. x ≡ e) → IfErr r (IsMemoryOrInvalid (HasOne is (map (λ t. t.now) xs)))
refused_so is xs i d e (Ok x) less h same = tt
refused_so is xs i d e (Err x) less h same = subst (IsMemoryOrInvalid (HasOne is (map (λ t. t.now) xs))) (sym same) (refused_one is xs i d e less h)
