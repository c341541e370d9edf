-- What a choice of two types keeps whose elements have the tags t and u.
use Rattle.std.proofs.Common.{◌≡◌, ℕ, ◌||◌, eqb, Bool, true, false, List, [], ◌++◌, ◌⊎◌, inl, inr, length, refl, sym, ap, ◌∙◌, eq-eqb, ◌<◌, ◌^◌}
use Rattle.krb_der_core.specs.Tlv.{tlv}
use Rattle.krb_der_core.specs.Encoding.{IsElement, OneValue}
use Rattle.krb_der_core.specs.TlvLaws.{tlv_apart}
use Rattle.krb_der_core.specs.declared.error.Asn1DerError.{Asn1DerError}
use Rattle.krb_der_core.specs.Errors.{ErrorLaws}
use Rattle.krb_der.specs.Choice.{neither, of_first, of_second}
use Rattle.krb_der.specs.Choice.{choice, IsChoice, ChoiceError}

pub same_tags : (t u : ℕ) (c d : List ℕ) → tlv t c ≡ tlv u d → t ≡ u
same_tags t u c d e = (tlv_apart t u c d [] [] (ap (λ (l : List ℕ). l ++ []) e)).tag

or_left : (b c : Bool) → b ≡ true → (b || c) ≡ true
or_left b c e = rw e refl

or_right : (b c : Bool) → c ≡ true → (b || c) ≡ true
or_right true c e = refl
or_right false c e = e

module _ {A B : Type 0} (t u : ℕ) (a : A → List ℕ) (b : B → List ℕ) where
  pub choice_element : (m : A ⊎ B) → IsElement (λ k. eqb k t || eqb k u) (choice (λ v. tlv t (a v)) (λ v. tlv u (b v)) m)
  choice_element (inl v) = record { tag = t; content = a v; whole = refl; begins = or_left (eqb t t) (eqb t u) (eq-eqb t t refl) }
  choice_element (inr v) = record { tag = u; content = b v; whole = refl; begins = or_right (eqb u t) (eqb u u) (eq-eqb u u refl) }

  module _ (apart : t ≡ u → ⊥) (is_a : A → Type 0) (is_b : B → Type 0) (one : OneValue is_a (λ v. tlv t (a v))) (also : OneValue is_b (λ v. tlv u (b v))) where
    same_held : OneValue (IsChoice is_a is_b) (choice (λ v. tlv t (a v)) (λ v. tlv u (b v)))
    same_held (inl x) (inl y) hx hy q = ap inl (one x y hx hy q)
    same_held (inr x) (inr y) hx hy q = ap inr (also x y hx hy q)
    same_held (inl x) (inr y) hx hy q = absurd (apart (same_tags t u (a x) (b y) q))
    same_held (inr x) (inl y) hx hy q = absurd (apart (sym (same_tags u t (b x) (a y) q)))

    -- where what is held decides the choice
    pub choice_one_value : {E : Type 0} (held : E → A ⊎ B) → ((v w : E) → held v ≡ held w → v ≡ w) → OneValue (λ m. IsChoice is_a is_b (held m)) (λ m. choice (λ v. tlv t (a v)) (λ v. tlv u (b v)) (held m))
    choice_one_value held decides v w hv hw e = decides v w (same_held (held v) (held w) hv hw e)

module _ {A B : Type 0} (t u : ℕ) (a : A → List ℕ) (b : B → List ℕ) (apart : t ≡ u → ⊥) (is_a : A → Type 0) (is_b : B → Type 0) (error_a error_b : ℕ → List ℕ → Asn1DerError → Type 0)
    (laws_a : ErrorLaws is_a (λ v. tlv t (a v)) error_a) (laws_b : ErrorLaws is_b (λ v. tlv u (b v)) error_b) where
  no_choice : (tag : ℕ) (content : List ℕ) (e : Asn1DerError) → length content < 2 ^ 64 → ChoiceError t u error_a error_b tag content e → (m : A ⊎ B) → IsChoice is_a is_b m → tlv tag content ≡ choice (λ v. tlv t (a v)) (λ v. tlv u (b v)) m → ⊥
  no_choice tag content e lt (neither p q) (inl v) h k = p (same_tags tag t content (a v) k)
  no_choice tag content e lt (neither p q) (inr v) h k = q (same_tags tag u content (b v) k)
  no_choice tag content e lt (of_first d p f) (inl v) h k = laws_a.no_value tag content d lt f v h k
  no_choice tag content e lt (of_first d p f) (inr v) h k = apart (sym p ∙ same_tags tag u content (b v) k)
  no_choice tag content e lt (of_second d p f) (inl v) h k = apart (sym (same_tags tag t content (a v) k) ∙ p)
  no_choice tag content e lt (of_second d p f) (inr v) h k = laws_b.no_value tag content d lt f v h k

  one_choice : (tag : ℕ) (content : List ℕ) (e d : Asn1DerError) → length content < 2 ^ 64 → ChoiceError t u error_a error_b tag content e → ChoiceError t u error_a error_b tag content d → e ≡ d
  one_choice tag content e d lt (neither p q) (neither r s) = refl
  one_choice tag content e d lt (neither p q) (of_first d2 r g) = absurd (p r)
  one_choice tag content e d lt (neither p q) (of_second d2 r g) = absurd (q r)
  one_choice tag content e d lt (of_first e2 p f) (neither r s) = absurd (r p)
  one_choice tag content e d lt (of_first e2 p f) (of_first d2 r g) = laws_a.one_error tag content e2 d2 lt f g
  one_choice tag content e d lt (of_first e2 p f) (of_second d2 r g) = absurd (apart (sym p ∙ r))
  one_choice tag content e d lt (of_second e2 p f) (neither r s) = absurd (s p)
  one_choice tag content e d lt (of_second e2 p f) (of_first d2 r g) = absurd (apart (sym r ∙ p))
  one_choice tag content e d lt (of_second e2 p f) (of_second d2 r g) = laws_b.one_error tag content e2 d2 lt f g

  pub choice_error_laws : {E : Type 0} (held : E → A ⊎ B) → ErrorLaws (λ m. IsChoice is_a is_b (held m)) (λ m. choice (λ v. tlv t (a v)) (λ v. tlv u (b v)) (held m)) (ChoiceError t u error_a error_b)
  choice_error_laws held = record { no_value = λ tag content e lt f m h k. no_choice tag content e lt f (held m) h k; one_error = one_choice }
