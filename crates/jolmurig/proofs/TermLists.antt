-- What texts are that of, one behind the other.
use Rattle.std.proofs.Common.{refl, sym, ap, inl, inr, ◌≡◌, ◌⊎◌, ◌<◌, ◌+◌, ◌∙◌, ℕ, List, [], ◌∷◌, ◌++◌, length, take, get_or, subst}
use Rattle.std.proofs.lemmas.List.{take_more}
use Rattle.krb_accept_rules.proofs.Firsts.{among_at}
use Rattle.jolmurig.specs.Terms.{AreOfTexts, HasTextOfNone}
use Rattle.jolmurig.specs.declared.failure.Failure.{Failure}
use Rattle.jolmurig.specs.declared.failure.Failure.TheVariants as failure

module _ {A : Type 0} (is : List ℕ → A → Type 0) where
  -- one more
  pub one_more : (texts : List (List ℕ)) (found : List A) (text : List ℕ) (one : A) → AreOfTexts is texts found → is text one
      → AreOfTexts is (texts ++ text ∷ []) (found ++ one ∷ [])
  one_more [] found text one are h = rw are (one, [], h, refl, refl)
  one_more (x ∷ texts) found text one (first, more, fits, are, e) h =
      (first, more ++ one ∷ [], fits, one_more texts more text one are h, ap (λ l. l ++ one ∷ []) e)

  -- the one behind those so far
  pub next : (texts : List (List ℕ)) (i : ℕ) (found : List A) (text : List ℕ) (one : A) → i < length texts → text ≡ get_or texts i text
      → AreOfTexts is (take i texts) found → is text one → AreOfTexts is (take (i + 1) texts) (found ++ one ∷ [])
  next texts i found text one lt at are h =
      subst (λ l. AreOfTexts is l (found ++ one ∷ [])) (sym (take_more texts i text lt ∙ ap (λ t. take i texts ++ t ∷ []) (sym at)))
      (one_more (take i texts) found text one are h)

  -- the one behind those so far is that of none, or an allocation failed
  pub refused_at : (texts : List (List ℕ)) (i : ℕ) (text : List ℕ) (e f : Failure) → i < length texts → text ≡ get_or texts i text
      → (e ≡ failure.Memory) ⊎ ((e ≡ f) × ((one : A) → is text one → ⊥)) → (e ≡ failure.Memory) ⊎ ((e ≡ f) × HasTextOfNone is texts)
  refused_at texts i text e f lt at (inl memory) = inl memory
  refused_at texts i text e f lt at (inr (same, none)) = inr (same, (text, among_at texts i text text lt at refl, none))
