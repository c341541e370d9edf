-- What each item becomes, as a loop finds it: what is done, and what is left.
use Rattle.std.proofs.Common.{◌≡◌, ◌∙◌, inl, inr, ℕ, ◌+◌, ◌<◌, ◌≤◌, List, [], ◌∷◌, ◌++◌, length, map, get_or, drop, Result, Ok, Err, refl, sym, ap, append_assoc, drop-cons, add-one}
use Rattle.std.proofs.lemmas.List.{append-nil}
use Rattle.std.proofs.lemmas.List.{drop_all}
use Rattle.krb_files.specs.FieldReading.{◌>>=◌}
use Rattle.krb_file_tools.specs.Answers.{IsMemoryOr}
use Rattle.krb_file_tools.specs.Kirbi.{each_of, each_pair_of}
use Rattle.krb_file_tools.specs.declared.convert.error.ConvertError.{ConvertError}

-- what was done, before what is still to be done
abbrev pub after : {A : Type 0} → List A → Result (List A) ConvertError → Result (List A) ConvertError
after front (Ok xs) = Ok (front ++ xs)
after front (Err e) = Err e

pub after_none : {A : Type 0} (r : Result (List A) ConvertError) → after [] r ≡ r
after_none (Ok xs) = refl
after_none (Err e) = refl

regroup : {A : Type 0} (front : List A) (y : A) (r : Result (List A) ConvertError) → after front (r >>= λ ys. Ok (y ∷ ys)) ≡ after (front ++ y ∷ []) r
regroup front y (Ok ys) = ap (λ l. Ok l) (sym (append_assoc front (y ∷ []) ys))
regroup front y (Err e) = refl

module _ {A B : Type 0} (f : A → Result B ConvertError) where
  pub one_more : (xs : List A) (i : ℕ) (x : A) (y : B) (front : List B) → i < length xs → x ≡ get_or xs i x → f x ≡ Ok y → after front (each_of f (drop i xs)) ≡ each_of f xs
      → after (front ++ y ∷ []) (each_of f (drop (i + 1) xs)) ≡ each_of f xs
  one_more xs i x y front lt is h done =
      let first : drop i xs ≡ x ∷ drop (i + 1) xs = drop-cons xs i x lt ∙ rw (add-one, ← is) refl in
      let step : after front (each_of f (drop i xs)) ≡ after (front ++ y ∷ []) (each_of f (drop (i + 1) xs)) = rw (first, h) (regroup front y (each_of f (drop (i + 1) xs))) in
      sym step ∙ done

  pub one_broken : (xs : List A) (i : ℕ) (x : A) (e : ConvertError) (front : List B) → i < length xs → x ≡ get_or xs i x → IsMemoryOr e (f x ≡ Err e)
      → after front (each_of f (drop i xs)) ≡ each_of f xs → IsMemoryOr e (each_of f xs ≡ Err e)
  one_broken xs i x e front lt is (inl m) done = inl m
  one_broken xs i x e front lt is (inr h) done =
      let first : drop i xs ≡ x ∷ drop (i + 1) xs = drop-cons xs i x lt ∙ rw (add-one, ← is) refl in
      let step : after front (each_of f (drop i xs)) ≡ Err e = rw (first, h) refl in
      inr (sym done ∙ step)

  pub all_done : (xs : List A) (i : ℕ) (front : List B) → length xs ≤ i → after front (each_of f (drop i xs)) ≡ each_of f xs → each_of f xs ≡ Ok front
  all_done xs i front le done =
      let none : drop i xs ≡ [] = drop_all i xs le in
      let step : after front (each_of f (drop i xs)) ≡ Ok front = rw none (ap (λ l. Ok l) (append-nil front)) in
      sym done ∙ step

module _ {A B C : Type 0} (f : A → B → Result C ConvertError) where
  pub pair_more : (xs : List A) (ys : List B) (i : ℕ) (x : A) (y : B) (z : C) (front : List C) → i < length xs → i < length ys → x ≡ get_or xs i x → y ≡ get_or ys i y → f x y ≡ Ok z
      → after front (each_pair_of f (drop i xs) (drop i ys)) ≡ each_pair_of f xs ys
      → after (front ++ z ∷ []) (each_pair_of f (drop (i + 1) xs) (drop (i + 1) ys)) ≡ each_pair_of f xs ys
  pair_more xs ys i x y z front lt less is has h done =
      let first : drop i xs ≡ x ∷ drop (i + 1) xs = drop-cons xs i x lt ∙ rw (add-one, ← is) refl in
      let second : drop i ys ≡ y ∷ drop (i + 1) ys = drop-cons ys i y less ∙ rw (add-one, ← has) refl in
      let step : after front (each_pair_of f (drop i xs) (drop i ys)) ≡ after (front ++ z ∷ []) (each_pair_of f (drop (i + 1) xs) (drop (i + 1) ys)) =
      rw (first, second, h) (regroup front z (each_pair_of f (drop (i + 1) xs) (drop (i + 1) ys))) in
      sym step ∙ done

  pub pair_broken : (xs : List A) (ys : List B) (i : ℕ) (x : A) (y : B) (e : ConvertError) (front : List C) → i < length xs → i < length ys → x ≡ get_or xs i x → y ≡ get_or ys i y
      → IsMemoryOr e (f x y ≡ Err e) → after front (each_pair_of f (drop i xs) (drop i ys)) ≡ each_pair_of f xs ys → IsMemoryOr e (each_pair_of f xs ys ≡ Err e)
  pair_broken xs ys i x y e front lt less is has (inl m) done = inl m
  pair_broken xs ys i x y e front lt less is has (inr h) done =
      let first : drop i xs ≡ x ∷ drop (i + 1) xs = drop-cons xs i x lt ∙ rw (add-one, ← is) refl in
      let second : drop i ys ≡ y ∷ drop (i + 1) ys = drop-cons ys i y less ∙ rw (add-one, ← has) refl in
      let step : after front (each_pair_of f (drop i xs) (drop i ys)) ≡ Err e = rw (first, second, h) refl in
      inr (sym done ∙ step)

  pub pairs_done : (xs : List A) (ys : List B) (i : ℕ) (front : List C) → length xs ≤ i → after front (each_pair_of f (drop i xs) (drop i ys)) ≡ each_pair_of f xs ys
      → each_pair_of f xs ys ≡ Ok front
  pairs_done xs ys i front le done =
      let none : drop i xs ≡ [] = drop_all i xs le in
      let step : after front (each_pair_of f (drop i xs) (drop i ys)) ≡ Ok front = rw none (ap (λ l. Ok l) (append-nil front)) in
      sym done ∙ step

-- what each item becomes that is seen as another
pub each_mapped : {A B C : Type 0} (f : B → Result C ConvertError) (g : A → B) (xs : List A) → each_of (λ x. f (g x)) xs ≡ each_of f (map g xs)
each_mapped f g [] = refl
each_mapped f g (x ∷ xs) = ap (λ r. f (g x) >>= λ y. r >>= λ ys. Ok (y ∷ ys)) (each_mapped f g xs)
