-- Groups of fields have one reading.
use Rattle.std.proofs.Common.{◌≡◌, ℕ, Bool, true, false, ◌||◌, List, [], ◌∷◌, ◌++◌, Option, Some, None, refl, sym, ap, ◌∙◌, append_assoc, length, ◌<◌, arith}
use Rattle.std.specs.Prelude.{IfSome}
use Rattle.krb_der_core.specs.Tlv.{len, tlv}
use Rattle.krb_der_core.specs.Encoding.{IsElement, OneValue, BeginsWith, Apart, optional}
use Rattle.krb_der_core.specs.TlvLaws.{tlv_same, field_apart, optional_apart}
use Rattle.krb_der.specs.declared.optional.Optional.{Optional}
use Rattle.krb_der.specs.Composite.{nothing}
use Rattle.krb_der.specs.Grouping.{BeginSo, OneReading}

-- an element begins with its tag, whatever is after it
pub element_first : (f : ℕ → Bool) (a y : List ℕ) → IsElement f a → BeginsWith f (a ++ y)
unfolding tlv
element_first f [] y h = let k : [] ≡ h.tag ∷ (len (length h.content) ++ h.content) = h.whole in cc
element_first f (i ∷ a) y h =
    let k : i ∷ a ≡ h.tag ∷ (len (length h.content) ++ h.content) = h.whole in
    let s : i ≡ h.tag = cc in
    rw s h.begins

pub element_long : (f : ℕ → Bool) (a y : List ℕ) → IsElement f a → 0 < length (a ++ y)
unfolding tlv
element_long f [] y h = let k : [] ≡ h.tag ∷ (len (length h.content) ++ h.content) = h.whole in cc
element_long f (i ∷ a) y h = omega arith

or_left : (f g : ℕ → Bool) (c : List ℕ) → BeginsWith f c → BeginsWith (λ t. f t || g t) c
or_left f g [] h = tt
or_left f g (i ∷ c) h = rw h refl

or_true : (b : Bool) → (b || true) ≡ true
or_true true = refl
or_true false = refl

or_right : (f g : ℕ → Bool) (c : List ℕ) → BeginsWith g c → BeginsWith (λ t. f t || g t) c
or_right f g [] h = tt
or_right f g (i ∷ c) h = rw h (or_true (f i))

pub same_optional : {A : Type 0} (v w : Optional (Option A)) → v.0 ≡ w.0 → v ≡ w
same_optional {A} v w h = let mk : Option A → Optional (Option A) = λ a. record { 0 = a } in ap mk h

pub same_both : {A B : Type 0} (v w : A × B) → v.0 ≡ w.0 → v.1 ≡ w.1 → v ≡ w
same_both {A} {B} v w h k = let mk : A → B → A × B = λ a b. (a, b) in ap (λ (a : A). mk a v.1) h ∙ ap (λ (b : B). mk w.0 b) k

-- ---- one field

module _ {A : Type 0} (enc : A → List ℕ) (is_value : A → Type 0) (first : ℕ → Bool) (element : (v : A) → is_value v → IsElement first (enc v)) where
  pub field_begins : BeginSo is_value enc (λ follow. first)
  field_begins follow v x h hx = element_first first (enc v) x (element v h)

  optional_starts : (follow : ℕ → Bool) (v : Option A) (x : List ℕ) → IfSome v is_value → BeginsWith follow x → BeginsWith (λ t. first t || follow t) (optional enc v ++ x)
  optional_starts follow None x h hx = or_right first follow x hx
  optional_starts follow (Some v) x h hx = or_left first follow (enc v ++ x) (element_first first (enc v) x (element v h))

  pub optional_begins : BeginSo (λ (v : Optional (Option A)). IfSome v.0 is_value) (λ v. optional enc v.0) (λ follow t. first t || follow t)
  optional_begins follow v x h hx = optional_starts follow v.0 x h hx

  module _ (one : OneValue is_value enc) where
    pub field_one_reading : OneReading (λ follow. Unit {0}) is_value enc
    field_one_reading follow is_apart v w x y hv hw hx hy e = field_apart enc is_value first element one v w x y hv hw e

    pub optional_one_reading : OneReading (λ follow. Apart first follow) (λ (v : Optional (Option A)). IfSome v.0 is_value) (λ v. optional enc v.0)
    optional_one_reading follow is_apart v w x y hv hw hx hy e =
        let s = optional_apart enc is_value first follow element one is_apart v.0 w.0 x y hv hw hx hy e in
        (same_optional v w s.0, s.1)

-- ---- fields after fields

module _ {A B : Type 0} (a_octets : A → List ℕ) (b_octets : B → List ℕ) (are_a : A → Type 0) (are_b : B → Type 0) (a_begins b_begins : (ℕ → Bool) → ℕ → Bool) (a_so : BeginSo are_a a_octets a_begins) (b_so : BeginSo are_b b_octets b_begins) where
  pub both_begins : BeginSo (λ (v : A × B). are_a v.0 × are_b v.1) (λ v. a_octets v.0 ++ b_octets v.1) (λ follow. a_begins (b_begins follow))
  both_begins follow v x h hx = rw append_assoc (a_so (b_begins follow) v.0 (b_octets v.1 ++ x) h.0 (b_so follow v.1 x h.1 hx))

  pub both_one_reading : (a_distinguished b_distinguished : (ℕ → Bool) → Type 0) → OneReading a_distinguished are_a a_octets → OneReading b_distinguished are_b b_octets
      → OneReading (λ follow. a_distinguished (b_begins follow) × b_distinguished follow) (λ (v : A × B). are_a v.0 × are_b v.1) (λ v. a_octets v.0 ++ b_octets v.1)
  both_one_reading a_distinguished b_distinguished one_a one_b follow is_apart v w x y hv hw hx hy e =
      let f : a_octets v.0 ++ (b_octets v.1 ++ x) ≡ a_octets w.0 ++ (b_octets w.1 ++ y) = sym (append_assoc (a_octets v.0) (b_octets v.1) x) ∙ e ∙ append_assoc (a_octets w.0) (b_octets w.1) y in
      let s = one_a (b_begins follow) is_apart.0 v.0 w.0 (b_octets v.1 ++ x) (b_octets w.1 ++ y) hv.0 hw.0 (b_so follow v.1 x hv.1 hx) (b_so follow w.1 y hw.1 hy) f in
      let t = one_b follow is_apart.1 v.1 w.1 x y hv.1 hw.1 hx hy s.1 in
      (same_both v w s.0 t.0, t.1)

-- ---- a whole sequence

-- a sequence decides the struct that is made of its fields
pub sequence_one_value : {A F : Type 0} (fields : A → F) (with_fields : F → A) → ((v : A) → with_fields (fields v) ≡ v)
    → (distinguished : (ℕ → Bool) → Type 0) (are_values : F → Type 0) (octets : F → List ℕ) → OneReading distinguished are_values octets
    → distinguished nothing
    → OneValue (λ v. are_values (fields v)) (λ v. tlv 48 (octets (fields v)))
sequence_one_value fields with_fields same distinguished are_values octets one is_apart v w hv hw e =
    let k = tlv_same 48 48 (octets (fields v)) (octets (fields w)) e in
    let s = one nothing is_apart (fields v) (fields w) [] [] hv hw tt tt (ap (λ (l : List ℕ). l ++ []) k) in
    sym (same v) ∙ ap with_fields s.0 ∙ same w
