-- Encodings in a row have one reading.
use Rattle.std.proofs.Common.{◌≡◌, ℕ, ◌<◌, Bool, List, [], ◌∷◌, ◌++◌, length, refl, sym, ap, ◌∙◌, append_assoc, arith}
use Rattle.std.specs.List.{flat_map, AllByRecursion}
use Rattle.krb_der_core.specs.Encoding.{IsElement, OneValue, BeginsWith}
use Rattle.krb_der_core.specs.TlvLaws.{field_apart, same_conses}
use Rattle.krb_der.specs.FieldLaws.{element_first, element_long}

module _ {A : Type 0} (enc : A → List ℕ) (is_value : A → Type 0) (first : ℕ → Bool) (element : (v : A) → is_value v → IsElement first (enc v)) where
  pub list_begins_so : (v : List A) → AllByRecursion is_value v → BeginsWith first (flat_map enc v)
  list_begins_so [] h = tt
  list_begins_so (x ∷ xs) h = element_first first (enc x) (flat_map enc xs) (element x h.0)

  pub row_long : (x : A) (y : List ℕ) → is_value x → 0 < length (enc x ++ y)
  row_long x y h = element_long first (enc x) y (element x h)

  module _ (one : OneValue is_value enc) where
    -- what follows the values that were read is a row of values
    pub peel : (xs ys : List A) (rest : List ℕ) → AllByRecursion is_value xs → AllByRecursion is_value ys → flat_map enc xs ++ rest ≡ flat_map enc ys → (zs : List A) × AllByRecursion is_value zs × (rest ≡ flat_map enc zs)
    peel [] ys rest hx hy e = (ys, hy, e)
    peel (x ∷ xs) [] rest hx hy e = absurd (omega (arith, row_long x (flat_map enc xs ++ rest) hx.0, ap length (sym (append_assoc (enc x) (flat_map enc xs) rest) ∙ e)))
    peel (x ∷ xs) (y ∷ ys) rest hx hy e =
        peel xs ys rest hx.1 hy.1 (field_apart enc is_value first element one x y (flat_map enc xs ++ rest) (flat_map enc ys) hx.0 hy.0 (sym (append_assoc (enc x) (flat_map enc xs) rest) ∙ e)).1

    pub list_one_content : OneValue (AllByRecursion is_value) (flat_map enc)
    list_one_content [] [] hv hw e = refl
    list_one_content [] (w ∷ ws) hv hw e = absurd (omega (arith, row_long w (flat_map enc ws) hw.0, ap length e))
    list_one_content (v ∷ vs) [] hv hw e = absurd (omega (arith, row_long v (flat_map enc vs) hv.0, ap length e))
    list_one_content (v ∷ vs) (w ∷ ws) hv hw e =
        let s = field_apart enc is_value first element one v w (flat_map enc vs) (flat_map enc ws) hv.0 hw.0 e in
        same_conses v w vs ws s.0 (list_one_content vs ws hv.1 hw.1 s.1)
