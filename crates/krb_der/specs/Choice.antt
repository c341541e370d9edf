-- A CHOICE of two types that are distinguished by their tags (X.690, 8.13).
use Rattle.std.proofs.Common.{inl, inr}
use Rattle.std.specs.Prelude.{◌≡◌, ℕ, List, ◌⊎◌}
use Rattle.krb_der_core.specs.declared.error.Asn1DerError.{Asn1DerError}
use Rattle.krb_der_core.specs.declared.error.Asn1DerError.TheVariants as errors

-- what it holds is encoded as itself
abbrev pub choice : {A B : Type 0} → (A → List ℕ) → (B → List ℕ) → A ⊎ B → List ℕ
choice a b (inl v) = a v
choice a b (inr v) = b v

-- what it holds is a value of its type
abbrev pub IsChoice : {A B : Type 0} → (A → Type 0) → (B → Type 0) → A ⊎ B → Type 0
IsChoice is_a is_b (inl v) = is_a v
IsChoice is_a is_b (inr v) = is_b v

-- The first error of a choice of elements with the tags t and u: the tag is neither, or the error is that of the type with
-- the tag.
pub data ChoiceError (t u : ℕ) (a b : ℕ → List ℕ → Asn1DerError → Type 0) (tag : ℕ) (content : List ℕ) : Asn1DerError → Type 0 where
  neither : (tag ≡ t → ⊥) → (tag ≡ u → ⊥) → ChoiceError t u a b tag content errors.InvalidData
  of_first : (e : Asn1DerError) → tag ≡ t → a tag content e → ChoiceError t u a b tag content e
  of_second : (e : Asn1DerError) → tag ≡ u → b tag content e → ChoiceError t u a b tag content e
