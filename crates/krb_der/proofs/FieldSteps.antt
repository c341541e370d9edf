-- Reading groups of fields.
use Rattle.std.proofs.Common.{◌≡◌, ℕ, ◌-◌, ◌<◌, Bool, true, List, [], ◌∷◌, ◌++◌, length, get_or, take, drop, Option, Some, None, refl, sym, ap, ◌∙◌, append_assoc, arith}
use Rattle.std.specs.Prelude.{IfSome}
use Rattle.std.proofs.lemmas.List.{append_cancel_left, take_rest}
use Rattle.krb_der_core.specs.Encoding.{IsElement, OneValue, BeginsWith, Apart, optional}
use Rattle.krb_der_core.specs.Reading.{TakesPrefix}
use Rattle.krb_der_core.specs.TlvLaws.{field_apart, element_begins}
use Rattle.krb_der.specs.declared.optional.Optional.{Optional}
use Rattle.krb_der.specs.FieldLaws.{element_first, element_long, same_optional}

-- ---- one field

module _ {A : Type 0} (enc : A → List ℕ) (is_value : A → Type 0) (first : ℕ → Bool) (element : (v : A) → is_value v → IsElement first (enc v)) where
  starts_some : (input b : List ℕ) → BeginsWith first b → 0 < length b → input ≡ b → (0 < length input → first (get_or input 0 0) ≡ true → ⊥) → ⊥
  starts_some input [] h lt e other = absurd (omega arith)
  starts_some input (i ∷ b) h lt e other = other (omega (arith, ap length e)) (rw e h)

  none_there : (input : List ℕ) → (0 < length input → first (get_or input 0 0) ≡ true → ⊥) → (o : Option A) (y : List ℕ) → IfSome o is_value → input ≡ optional enc o ++ y → None ≡ o
  none_there input other None y h q = refl
  none_there input other (Some v) y h q = absurd (starts_some input (enc v ++ y) (element_first first (enc v) y (element v h)) (element_long first (enc v) y (element v h)) q other)

  -- where the input does not begin with a field's first octet, the field is absent
  pub none_read : (input : List ℕ) → (0 < length input → first (get_or input 0 0) ≡ true → ⊥) → (v w : Optional (Option A)) (y : List ℕ) → v.0 ≡ None → IfSome w.0 is_value → input ≡ optional enc w.0 ++ y → v ≡ w
  none_read input other v w y e h q = same_optional v w (e ∙ none_there input other w.0 y h q)

  module _ (one : OneValue is_value enc) where
    pub field_read : (a : A) (n : ℕ) (input : List ℕ) (w : A) (y : List ℕ) → is_value a → TakesPrefix (enc a) n input → is_value w → input ≡ enc w ++ y → a ≡ w
    field_read a n input w y ha f h q = (field_apart enc is_value first element one a w (drop n input) y ha h (sym f.prefix ∙ q)).0

    some_there : (follow : ℕ → Bool) → Apart first follow → (a : A) (n : ℕ) (input : List ℕ) → is_value a → TakesPrefix (enc a) n input → (o : Option A) (y : List ℕ) → IfSome o is_value → BeginsWith follow y → input ≡ optional enc o ++ y → Some a ≡ o
    some_there follow is_apart a n input ha f None y h hy q = absurd (element_begins first follow (enc a) y (drop n input) (element a ha) hy is_apart (sym f.prefix ∙ q))
    some_there follow is_apart a n input ha f (Some v) y h hy q = ap Some (field_apart enc is_value first element one a v (drop n input) y ha h (sym f.prefix ∙ q)).0

    -- a field that was read is there
    pub some_read : (follow : ℕ → Bool) → Apart first follow → (a : A) (n : ℕ) (input : List ℕ) (v w : Optional (Option A)) (y : List ℕ) → is_value a → TakesPrefix (enc a) n input → v.0 ≡ Some a → IfSome w.0 is_value → BeginsWith follow y → input ≡ optional enc w.0 ++ y → v ≡ w
    some_read follow is_apart a n input v w y ha f e h hy q = same_optional v w (e ∙ some_there follow is_apart a n input ha f w.0 y h hy q)

-- ---- fields after fields

same_octets : {A : Type 0} (octets : A → List ℕ) (a w : A) (x y : List ℕ) → a ≡ w → octets a ++ x ≡ octets w ++ y → octets w ++ x ≡ octets w ++ y
same_octets octets a w x y e q = ap (λ (l : List ℕ). l ++ x) (sym (ap octets e)) ∙ q

-- what follows the fields that were read
pub trailing_left : {A B : Type 0} (a_octets : A → List ℕ) (b_octets : B → List ℕ) (a w : A) (v : B) (n : ℕ) (input y : List ℕ)
    → TakesPrefix (a_octets a) n input → a ≡ w → input ≡ (a_octets w ++ b_octets v) ++ y
    → take (length input - n) (drop n input) ≡ b_octets v ++ y
trailing_left a_octets b_octets a w v n input y f e q =
    take_rest input n ∙ append_cancel_left (a_octets w) (drop n input) (b_octets v ++ y) (same_octets a_octets a w (drop n input) (b_octets v ++ y) e (sym f.prefix ∙ q ∙ append_assoc (a_octets w) (b_octets v) y))

-- fields with octets left over are not all of them
pub left_over : {A : Type 0} (octets : A → List ℕ) (a v : A) (n : ℕ) (input : List ℕ) → TakesPrefix (octets a) n input → a ≡ v
    → (n ≡ length input → ⊥) → input ≡ octets v → ⊥
left_over octets a v n input f e more q = more (f.count ∙ ap (λ w. length (octets w)) e ∙ sym (ap length q))
