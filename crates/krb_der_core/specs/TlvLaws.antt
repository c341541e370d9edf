-- Elements in a row have one reading: the three laws of concatenated encodings.
use Rattle.std.proofs.Common.{◌≡◌, ℕ, ◌+◌, ◌<◌, ◌≤◌, Bool, true, false, List, [], ◌∷◌, ◌++◌, length, take, drop, refl, sym, ap, ◌∙◌, append_assoc, arith, inl, inr, eqb, eq-eqb, Option, Some, None}
use Rattle.std.proofs.lemmas.Bool.{cases_lt, le-ltb, lt-ltb, eqb-true}
use Rattle.std.proofs.lemmas.List.{take_at, drop_at}
use Rattle.std.specs.Int.Digits.{digits_of}
use Rattle.std.proofs.lemmas.Int.Digits.{same_from_digits_of}
use Rattle.std.specs.Prelude.{IfSome}
use Rattle.krb_der_core.specs.Tlv.{len, tlv}
use Rattle.krb_der_core.specs.Encoding.{IsElement, OneValue, BeginsWith, Apart, optional}

-- prefixes of one length
pub same_prefixes : (a b x y : List ℕ) → length a ≡ length b → a ++ x ≡ b ++ y → (a ≡ b) × (x ≡ y)
same_prefixes a b x y h e = (
  sym (take_at a x (length a) refl) ∙ ap (λ (l : List ℕ). take (length a) l) e ∙ take_at b y (length a) (sym h),
  sym (drop_at a x (length a) refl) ∙ ap (λ (l : List ℕ). drop (length a) l) e ∙ drop_at b y (length a) (sym h),
)

pub same_heads : (a b : ℕ) (x y : List ℕ) → a ∷ x ≡ b ∷ y → (a ≡ b) × (x ≡ y)
same_heads a b x y e = (cc, cc)

pub same_conses : {A : Type 0} (a b : A) (x y : List A) → a ≡ b → x ≡ y → a ∷ x ≡ b ∷ y
same_conses a b x y p q = cc

pub len-small : (n : ℕ) → n < 128 → len n ≡ n ∷ []
unfolding len
len-small n h = rw (lt-ltb n 128 h) refl

pub len-large : (n : ℕ) → 128 ≤ n → len n ≡ (128 + length (digits_of 256 n)) ∷ digits_of 256 n
unfolding len
len-large n h = rw (le-ltb n 128 h) refl

apart_small : (m n : ℕ) (x y : List ℕ) → m < 128 → 128 ≤ n → len m ++ x ≡ len n ++ y → ⊥
apart_small m n x y hm hn e =
    let f : m ∷ x ≡ (128 + length (digits_of 256 n)) ∷ (digits_of 256 n ++ y) = rw (len-small m hm, len-large n hn) at e in
    omega (arith, (same_heads _ _ _ _ f).0)

pub len_apart : (m n : ℕ) (x y : List ℕ) → len m ++ x ≡ len n ++ y → (m ≡ n) × (x ≡ y)
len_apart m n x y e =
    elim (cases_lt m 128) [
      | inl hm ↦ elim (cases_lt n 128) [
        | inl hn ↦ (let f : m ∷ x ≡ n ∷ y = rw (len-small m hm, len-small n hn) at e in same_heads m n x y f)
        | inr hn ↦ absurd (apart_small m n x y hm hn e)
      ]
      | inr hm ↦ elim (cases_lt n 128) [
        | inl hn ↦ absurd (apart_small n m y x hn hm (sym e))
        | inr hn ↦
            (let f : (128 + length (digits_of 256 m)) ∷ (digits_of 256 m ++ x) ≡ (128 + length (digits_of 256 n)) ∷ (digits_of 256 n ++ y) = rw (len-large m hm, len-large n hn) at e in
            let h = same_heads _ _ _ _ f in
            let k = same_prefixes (digits_of 256 m) (digits_of 256 n) x y (omega (arith, h.0)) h.1 in
            (same_from_digits_of 256 m n (omega arith) k.0, k.1))
      ]
    ]

-- The first law: an element followed by a rest decides its tag, its content and the rest.
pub record SameElement (t u : ℕ) (c d x y : List ℕ) : Type 0 where
  pub tag : t ≡ u
  pub content : c ≡ d
  pub rest : x ≡ y

pub tlv_apart : (t u : ℕ) (c d x y : List ℕ) → tlv t c ++ x ≡ tlv u d ++ y → SameElement t u c d x y
unfolding tlv
tlv_apart t u c d x y e =
    let h = same_heads t u ((len (length c) ++ c) ++ x) ((len (length d) ++ d) ++ y) e in
    let f : len (length c) ++ (c ++ x) ≡ len (length d) ++ (d ++ y) = sym (append_assoc (len (length c)) c x) ∙ h.1 ∙ append_assoc (len (length d)) d y in
    let k = len_apart (length c) (length d) (c ++ x) (d ++ y) f in
    let s = same_prefixes c d x y k.0 k.1 in
    record { tag = h.0; content = s.0; rest = s.1 }

-- equal elements have equal contents
pub tlv_same : (t u : ℕ) (c d : List ℕ) → tlv t c ≡ tlv u d → c ≡ d
tlv_same t u c d e = (tlv_apart t u c d [] [] (ap (λ (l : List ℕ). l ++ []) e)).content

-- an element with the encoding of a value
pub tagged_element : (t : ℕ) (c : List ℕ) → IsElement (λ u. eqb u t) (tlv t c)
tagged_element t c = record { tag = t; content = c; whole = refl; begins = eq-eqb t t refl }

pub tagged_one_value : {A : Type 0} (t : ℕ) (is_content : A → Type 0) (content : A → List ℕ) → OneValue is_content content
    → OneValue is_content (λ v. tlv t (content v))
tagged_one_value t is_content content one v w hv hw e = one v w hv hw (tlv_same t t (content v) (content w) e)

pub same_tlvs : (t u : ℕ) (c d : List ℕ) → t ≡ u → c ≡ d → tlv t c ≡ tlv u d
same_tlvs t u c d e f = cc

-- The second law: a mandatory field followed by a rest decides the field and the rest.
pub field_apart : {A : Type 0} (enc : A → List ℕ) (is_value : A → Type 0) (first : ℕ → Bool)
    → ((v : A) → is_value v → IsElement first (enc v)) → OneValue is_value enc
    → (v w : A) (x y : List ℕ) → is_value v → is_value w → enc v ++ x ≡ enc w ++ y → (v ≡ w) × (x ≡ y)
field_apart enc is_value first element one v w x y hv hw e =
    let a = element v hv in
    let b = element w hw in
    let f : tlv a.tag a.content ++ x ≡ tlv b.tag b.content ++ y = rw (← a.whole, ← b.whole) e in
    let s = tlv_apart a.tag b.tag a.content b.content x y f in
    (one v w hv hw (a.whole ∙ same_tlvs a.tag b.tag a.content b.content s.tag s.content ∙ sym b.whole), s.rest)

-- an element does not begin with an octet that the rest begins with
pub element_begins : (f g : ℕ → Bool) (a y z : List ℕ) → IsElement f a → BeginsWith g y → Apart f g → a ++ z ≡ y → ⊥
unfolding tlv
element_begins f g a [] z h b apart e =
    let k : h.tag ∷ ((len (length h.content) ++ h.content) ++ z) ≡ [] = ap (λ (l : List ℕ). l ++ z) (sym h.whole) ∙ e in cc
element_begins f g a (j ∷ y) z h b apart e =
    let k : h.tag ∷ ((len (length h.content) ++ h.content) ++ z) ≡ j ∷ y = ap (λ (l : List ℕ). l ++ z) (sym h.whole) ∙ e in
    let s = same_heads h.tag j _ _ k in
    let t : g h.tag ≡ false = apart h.tag h.begins in
    let u : true ≡ false = sym b ∙ ap g (sym s.0) ∙ t in
    cc

-- The third law: so does an optional field, where the rest begins with none of its first octets.
pub optional_apart : {A : Type 0} (enc : A → List ℕ) (is_value : A → Type 0) (first begins : ℕ → Bool)
    → ((v : A) → is_value v → IsElement first (enc v)) → OneValue is_value enc → Apart first begins
    → (v w : Option A) (x y : List ℕ) → IfSome v is_value → IfSome w is_value → BeginsWith begins x → BeginsWith begins y → optional enc v ++ x ≡ optional enc w ++ y → (v ≡ w) × (x ≡ y)
optional_apart enc is_value first begins element one apart None None x y hv hw bx by e = (refl, e)
optional_apart enc is_value first begins element one apart (Some v) None x y hv hw bx by e = absurd (element_begins first begins (enc v) y x (element v hv) by apart e)
optional_apart enc is_value first begins element one apart None (Some w) x y hv hw bx by e = absurd (element_begins first begins (enc w) x y (element w hw) bx apart (sym e))
optional_apart enc is_value first begins element one apart (Some v) (Some w) x y hv hw bx by e =
    let s = field_apart enc is_value first element one v w x y hv hw e in
    (ap Some s.0, s.1)

-- an element of one tag is distinguished by it from what does not begin with it
pub only_tag : (tag : ℕ) (g : ℕ → Bool) → g tag ≡ false → Apart (λ t. eqb t tag) g
only_tag tag g h t e = ap g (eqb-true t tag e) ∙ h
