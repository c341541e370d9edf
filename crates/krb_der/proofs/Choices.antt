-- How an error of one type becomes one of a choice of two.
use Rattle.std.proofs.Common.{◌≡◌, ℕ, List, ◌⊎◌, inl, inr, sym, ◌∙◌}
use Rattle.krb_der_core.specs.declared.error.Asn1DerError.{Asn1DerError}
use Rattle.krb_der_core.specs.declared.error.Asn1DerError.TheVariants as errors
use Rattle.krb_der_core.specs.Tlv.{tlv}
use Rattle.krb_der_core.specs.Reading.{RejectsAll}
use Rattle.krb_der_core.proofs.Rejections.{rejects_other}
use Rattle.krb_der.specs.Choice.{choice, IsChoice}
use Rattle.krb_der.specs.ChoiceLaws.{same_tags}
use Rattle.krb_der_core.specs.Errors.{OrMemory}
use Rattle.krb_der_core.proofs.FirstErrors.{or_memory}
use Rattle.krb_der.specs.Choice.{neither, of_first, of_second}
use Rattle.krb_der.specs.Choice.{ChoiceError}

module _ {E A B : Type 0} (held : E → A ⊎ B) (is_a : A → Type 0) (is_b : B → Type 0) (t u : ℕ) (a : A → List ℕ) (b : B → List ℕ) (k : ℕ) (content : List ℕ) where
  no_first : (t ≡ u → ⊥) → k ≡ t → ((v : A) → is_a v → tlv k content ≡ tlv t (a v) → ⊥) → (m : A ⊎ B) → IsChoice is_a is_b m → tlv k content ≡ choice (λ v. tlv t (a v)) (λ v. tlv u (b v)) m → ⊥
  no_first apart is none (inl v) h q = none v h q
  no_first apart is none (inr v) h q = apart (sym is ∙ same_tags k u content (b v) q)

  no_second : (t ≡ u → ⊥) → k ≡ u → ((v : B) → is_b v → tlv k content ≡ tlv u (b v) → ⊥) → (m : A ⊎ B) → IsChoice is_a is_b m → tlv k content ≡ choice (λ v. tlv t (a v)) (λ v. tlv u (b v)) m → ⊥
  no_second apart is none (inl v) h q = apart (sym (same_tags k t content (a v) q) ∙ is)
  no_second apart is none (inr v) h q = none v h q

  other_tag : (k ≡ t → ⊥) → (k ≡ u → ⊥) → (m : A ⊎ B) → IsChoice is_a is_b m → tlv k content ≡ choice (λ v. tlv t (a v)) (λ v. tlv u (b v)) m → ⊥
  other_tag ne also (inl v) h q = ne (same_tags k t content (a v) q)
  other_tag ne also (inr v) h q = also (same_tags k u content (b v) q)

  pub neither_tag : (k ≡ t → ⊥) → (k ≡ u → ⊥) → (m : E) → IsChoice is_a is_b (held m) → tlv k content ≡ choice (λ v. tlv t (a v)) (λ v. tlv u (b v)) (held m) → ⊥
  neither_tag ne also m h q = other_tag ne also (held m) h q

  pub first_rejected : (t ≡ u → ⊥) → k ≡ t → (e : Asn1DerError) → RejectsAll is_a (λ v. tlv t (a v)) (tlv k content) e → RejectsAll (λ m. IsChoice is_a is_b (held m)) (λ m. choice (λ v. tlv t (a v)) (λ v. tlv u (b v)) (held m)) (tlv k content) e
  first_rejected apart is e r = rejects_other is_a (λ v. tlv t (a v)) (λ m. IsChoice is_a is_b (held m)) (λ m. choice (λ v. tlv t (a v)) (λ v. tlv u (b v)) (held m)) (tlv k content) (tlv k content) e (λ none m h q. no_first apart is none (held m) h q) r

  pub second_rejected : (t ≡ u → ⊥) → k ≡ u → (e : Asn1DerError) → RejectsAll is_b (λ v. tlv u (b v)) (tlv k content) e → RejectsAll (λ m. IsChoice is_a is_b (held m)) (λ m. choice (λ v. tlv t (a v)) (λ v. tlv u (b v)) (held m)) (tlv k content) e
  second_rejected apart is e r = rejects_other is_b (λ v. tlv u (b v)) (λ m. IsChoice is_a is_b (held m)) (λ m. choice (λ v. tlv t (a v)) (λ v. tlv u (b v)) (held m)) (tlv k content) (tlv k content) e (λ none m h q. no_second apart is none (held m) h q) r

-- ---- the first error

module _ (t u : ℕ) (error_a error_b : ℕ → List ℕ → Asn1DerError → Type 0) (tag : ℕ) (content : List ℕ) where
  pub neither_wrong : (tag ≡ t → ⊥) → (tag ≡ u → ⊥) → OrMemory (ChoiceError t u error_a error_b tag content) errors.InvalidData
  neither_wrong p q = inr (neither p q)

  pub first_wrong : (e : Asn1DerError) → tag ≡ t → OrMemory (error_a tag content) e → OrMemory (ChoiceError t u error_a error_b tag content) e
  first_wrong e p h = or_memory (error_a tag content) (ChoiceError t u error_a error_b tag content) e (of_first e p) h

  pub second_wrong : (e : Asn1DerError) → tag ≡ u → OrMemory (error_b tag content) e → OrMemory (ChoiceError t u error_a error_b tag content) e
  second_wrong e p h = or_memory (error_b tag content) (ChoiceError t u error_a error_b tag content) e (of_second e p) h
