-- Octets have one first error, and none where a value stands.
use Rattle.std.proofs.Common.{◌≡◌, ℕ, ◌-◌, ◌^◌, ◌<◌, ◌⊎◌, Bool, true, false, List, [], ◌∷◌, ◌++◌, length, nat_lt, if◌then◌else◌, refl, sym, ap, ◌∙◌, subst, append_assoc, arith, inl, inr}
use Rattle.std.proofs.Math.Dec.{eqb-suc-zero}
use Rattle.std.proofs.lemmas.Bool.{lt-ltb, le-ltb}
use Rattle.std.proofs.lemmas.List.{append-nil, length-append}
use Rattle.std.specs.List.{flat_map, AllByRecursion}
use Rattle.krb_der_core.specs.declared.error.Asn1DerError.{Asn1DerError}
use Rattle.krb_der_core.specs.declared.error.Asn1DerError.TheVariants as errors
use Rattle.krb_der_core.specs.Tlv.{len, tlv}
use Rattle.krb_der_core.specs.TlvLaws.{same_heads, len_apart, tlv_apart, tlv_same, field_apart}
use Rattle.krb_der_core.specs.Encoding.{IsElement, OneValue}
use Rattle.krb_der_core.specs.Errors.{no_length, other_form, cut_length, long_length, no_tag, wrong_tag, wrong_length, cut_content, wrong_content, other_tag, in_content, at_start, left_over}
use Rattle.krb_der_core.specs.Errors.{LengthError, PrefixError, PrimitiveError, TaggedError, WholeError, RowError, ValueError, ErrorLaws, ContentLaws, PrefixLaws}
use Rattle.krb_der_core.specs.LengthLaws.{nothing_read, bad_first, short_read}

-- ---- lengths

same_lists : (i j : ℕ) (a b octets : List ℕ) → octets ≡ i ∷ a → octets ≡ j ∷ b → (i ≡ j) × (a ≡ b)
same_lists i j a b octets p q = same_heads i j a b (sym p ∙ q)

none_some : (i : ℕ) (a octets : List ℕ) → octets ≡ [] → octets ≡ i ∷ a → ⊥
none_some i a octets p q = let k : [] ≡ i ∷ a = sym p ∙ q in cc

bad_form : (n first : ℕ) (r rest : List ℕ) → n < 2 ^ 64 → first ∷ r ≡ len n ++ rest → (first ≡ 128) ⊎ (136 < first) → ⊥
bad_form n first r rest lt e (inl a) = bad_first (first ∷ r) (eqb-suc-zero (length r)) (omega arith) (inl a) (len n) [] rest (n, lt, refl) (append-nil (first ∷ r) ∙ e)
bad_form n first r rest lt e (inr a) = bad_first (first ∷ r) (eqb-suc-zero (length r)) (omega arith) (inr (omega arith, a)) (len n) [] rest (n, lt, refl) (append-nil (first ∷ r) ∙ e)

-- where a length stands at the start, there is no error of it
no_length_error : (n : ℕ) (octets rest : List ℕ) (e : Asn1DerError) → n < 2 ^ 64 → octets ≡ len n ++ rest → LengthError octets e → ⊥
no_length_error n octets rest e lt q (no_length p) = nothing_read octets (rw p refl) (len n) rest (n, lt, refl) q
no_length_error n octets rest e lt q (other_form first r p bad) = bad_form n first r rest lt (sym p ∙ q) bad
no_length_error n octets rest e lt q (cut_length first r p gt le short) = short_read (first ∷ r) (eqb-suc-zero (length r)) (omega arith) (omega arith) (len n) rest (n, lt, refl) (sym p ∙ q)
no_length_error n octets rest e lt q (long_length first r p gt le all none) = none (len n) rest (n, lt, refl) q

-- the error, where there is one
abbrev length_error : List ℕ → Asn1DerError
length_error [] = errors.TruncatedData
length_error (first ∷ rest) = if nat_lt 136 first then errors.UnsupportedValue else (if nat_lt 128 first then (if nat_lt (length rest) (first - 128) then errors.TruncatedData else errors.InvalidData) else errors.UnsupportedValue)

length_error_is : (octets : List ℕ) (e : Asn1DerError) → LengthError octets e → e ≡ length_error octets
length_error_is octets e (no_length p) = rw p refl
length_error_is octets e (other_form first r p (inl a)) = rw (p, a) refl
length_error_is octets e (other_form first r p (inr a)) = rw (p, lt-ltb 136 first a) refl
length_error_is octets e (cut_length first r p gt le short) = rw (p, le-ltb 136 first le, lt-ltb 128 first gt, lt-ltb (length r) (first - 128) short) refl
length_error_is octets e (long_length first r p gt le all none) = rw (p, le-ltb 136 first le, lt-ltb 128 first gt, le-ltb (length r) (first - 128) all) refl

one_length_error : (octets : List ℕ) (e d : Asn1DerError) → LengthError octets e → LengthError octets d → e ≡ d
one_length_error octets e d f g = length_error_is octets e f ∙ sym (length_error_is octets d g)

-- ---- primitive types

pub primitive_error_laws : {A : Type 0} (wanted : ℕ) (is_value : A → Type 0) (content_of : A → List ℕ)
    → ErrorLaws is_value (λ v. tlv wanted (content_of v)) (PrimitiveError wanted is_value content_of)
primitive_error_laws wanted is_value content_of = record { no_value = λ t c e lt f. f.1; one_error = λ t c e d lt f g. f.0 ∙ sym g.0 }

-- ---- elements

pub content_fits : (t : ℕ) (content rest octets : List ℕ) → octets ≡ tlv t content ++ rest → length octets < 2 ^ 64 → length content < 2 ^ 64
unfolding tlv
content_fits t content rest octets e lt = omega (arith, ap length e, length-append (t ∷ (len (length content) ++ content)) rest, length-append (len (length content)) content)

pub clash : (b : Bool) → b ≡ true → b ≡ false → ⊥
clash b p q = let k : true ≡ false = sym p ∙ q in cc

cut_stands : (n m : ℕ) (r c rest : List ℕ) → length r < n → m ≡ length c → len n ++ r ≡ len m ++ (c ++ rest) → ⊥
cut_stands n m r c rest short size e =
    let k = len_apart n m r (c ++ rest) e in
    omega (arith, short, size, k.0, ap length k.1, length-append c rest)

trailing_tag : (t i : ℕ) (content rest octets a : List ℕ) → octets ≡ tlv t content ++ rest → octets ≡ i ∷ a → (i ≡ t)
    × (a ≡ len (length content) ++ (content ++ rest))
unfolding tlv
trailing_tag t i content rest octets a p q =
    let s = same_lists i t a ((len (length content) ++ content) ++ rest) octets q p in
    (s.0, s.1 ∙ append_assoc (len (length content)) content rest)

no_octets : (t : ℕ) (content rest octets : List ℕ) → octets ≡ [] → octets ≡ tlv t content ++ rest → ⊥
unfolding tlv
no_octets t content rest octets p q = let k : [] ≡ t ∷ ((len (length content) ++ content) ++ rest) = sym p ∙ q in cc

module _ (first : ℕ → Bool) (error : ℕ → List ℕ → Asn1DerError → Type 0) where
  -- where an element stands, the error is that of its content
  only_content : (octets : List ℕ) (e : Asn1DerError) (t : ℕ) (content rest : List ℕ) → PrefixError first error octets e → octets ≡ tlv t content ++ rest → first t ≡ true → length content < 2 ^ 64 → error t content e
  only_content octets e t content rest (no_tag p) q h lt = absurd (no_octets t content rest octets p q)
  only_content octets e t content rest (wrong_tag i a p w) q h lt = absurd (clash (first t) h (sym (ap first (trailing_tag t i content rest octets a q p).0) ∙ w))
  only_content octets e t content rest (wrong_length i a d p w f) q h lt =
      let b = trailing_tag t i content rest octets a q p in
      absurd (no_length_error (length content) a (content ++ rest) d lt b.1 f)
  only_content octets e t content rest (cut_content i n a p w less short) q h lt =
      let b = trailing_tag t i content rest octets (len n ++ a) q p in
      absurd (cut_stands n (length content) a content rest short refl b.1)
  only_content octets e t content rest (wrong_content i c a d p w less f) q h lt =
      let s = tlv_apart i t c content a rest (sym p ∙ q) in
      subst (λ (u : ℕ). error u content d) s.tag (subst (λ (l : List ℕ). error i l d) s.content f)

module _ {A : Type 0} (is_value : A → Type 0) (enc : A → List ℕ) (first : ℕ → Bool) (element : (v : A) → is_value v → IsElement first (enc v)) (error : ℕ → List ℕ → Asn1DerError → Type 0) (laws : ErrorLaws is_value enc error) where
  no_prefix : (octets : List ℕ) (e : Asn1DerError) → length octets < 2 ^ 64 → PrefixError first error octets e → (v : A) (rest : List ℕ) → is_value v → octets ≡ enc v ++ rest → Unit {0} → ⊥
  no_prefix octets e lt f v rest hv q u =
      let b = element v hv in
      let p : octets ≡ tlv b.tag b.content ++ rest = q ∙ ap (λ (l : List ℕ). l ++ rest) b.whole in
      let less = content_fits b.tag b.content rest octets p lt in
      laws.no_value b.tag b.content e less (only_content first error octets e b.tag b.content rest f p b.begins less) v hv (sym b.whole)

  one_content : (octets : List ℕ) (e d : Asn1DerError) (t : ℕ) (content rest : List ℕ) → octets ≡ tlv t content ++ rest → first t ≡ true → length content < 2 ^ 64 → error t content e → PrefixError first error octets d → e ≡ d
  one_content octets e d t content rest p w less f g = laws.one_error t content e d less f (only_content first error octets d t content rest g p w less)

  one_prefix : (octets : List ℕ) (e d : Asn1DerError) → length octets < 2 ^ 64 → PrefixError first error octets e → PrefixError first error octets d → e ≡ d
  one_prefix octets e d lt (no_tag p) (no_tag q) = refl
  one_prefix octets e d lt (no_tag p) (wrong_tag t a q w) = absurd (none_some t a octets p q)
  one_prefix octets e d lt (no_tag p) (wrong_length t a d2 q w f) = absurd (none_some t a octets p q)
  one_prefix octets e d lt (no_tag p) (cut_content t n a q w less short) = absurd (none_some t (len n ++ a) octets p q)
  one_prefix octets e d lt f (wrong_content t c a d2 q w less g) = sym (one_content octets d2 e t c a q w less g f)
  one_prefix octets e d lt (wrong_tag t a p w) (no_tag q) = absurd (none_some t a octets q p)
  one_prefix octets e d lt (wrong_tag t a p w) (wrong_tag u b q x) = refl
  one_prefix octets e d lt (wrong_tag t a p w) (wrong_length u b d2 q x g) = absurd (clash (first u) x (ap first (same_lists u t b a octets q p).0 ∙ w))
  one_prefix octets e d lt (wrong_tag t a p w) (cut_content u n b q x less short) = absurd (clash (first u) x (ap first (same_lists u t (len n ++ b) a octets q p).0 ∙ w))
  one_prefix octets e d lt (wrong_length t a e2 p w f) (no_tag q) = absurd (none_some t a octets q p)
  one_prefix octets e d lt (wrong_length t a e2 p w f) (wrong_tag u b q x) = absurd (clash (first t) w (ap first (same_lists t u a b octets p q).0 ∙ x))
  one_prefix octets e d lt (wrong_length t a e2 p w f) (wrong_length u b d2 q x g) = one_length_error b e2 d2 (subst (λ (l : List ℕ). LengthError l e2) (same_lists t u a b octets p q).1 f) g
  one_prefix octets e d lt (wrong_length t a e2 p w f) (cut_content u n b q x less short) = absurd (no_length_error n a b e2 less (same_lists t u a (len n ++ b) octets p q).1 f)
  one_prefix octets e d lt (cut_content t n a p w less short) (no_tag q) = absurd (none_some t (len n ++ a) octets q p)
  one_prefix octets e d lt (cut_content t n a p w less short) (wrong_tag u b q x) = absurd (clash (first t) w (ap first (same_lists t u (len n ++ a) b octets p q).0 ∙ x))
  one_prefix octets e d lt (cut_content t n a p w less short) (wrong_length u b d2 q x g) = absurd (no_length_error n b a d2 less (same_lists u t b (len n ++ a) octets q p).1 g)
  one_prefix octets e d lt (cut_content t n a p w less short) (cut_content u m b q x small brief) = refl
  one_prefix octets e d lt (wrong_content t c a e2 p w less f) g = one_content octets e2 d t c a p w less f g

  one_rest : OneValue is_value enc → (v w : A) (x y : List ℕ) → is_value v → is_value w → Unit {0} → Unit {0} → enc v ++ x ≡ enc w ++ y → x ≡ y
  one_rest one v w x y hv hw u z e = (field_apart enc is_value first element one v w x y hv hw e).1

  -- a prefix of octets that is to be a value's encoding
  pub prefix_laws : OneValue is_value enc → PrefixLaws is_value enc (λ v rest. Unit {0}) (PrefixError first error)
  prefix_laws one = record { no_value = no_prefix; one_error = one_prefix; one_rest = one_rest one }

-- ---- contents and whole inputs

module _ {A : Type 0} (is_value : A → Type 0) (octets_of : A → List ℕ) (ends : A → List ℕ → Type 0) (error : List ℕ → Asn1DerError → Type 0) (laws : PrefixLaws is_value octets_of ends error) where
  all_there : (v w : A) (rest octets : List ℕ) → is_value v → is_value w → ends v rest → ends w [] → octets ≡ octets_of v ++ rest → octets ≡ octets_of w → 0 < length rest → ⊥
  all_there v w rest octets hv hw ev ew p q some =
      let k : rest ≡ [] = laws.one_rest v w rest [] hv hw ev ew (sym p ∙ q ∙ sym (append-nil (octets_of w))) in
      omega (arith, ap length k, some)

  no_whole : ((v : A) → is_value v → ends v []) → (octets : List ℕ) (e : Asn1DerError) → length octets < 2 ^ 64 → WholeError is_value octets_of ends error octets e → (v : A) → is_value v → octets ≡ octets_of v → ⊥
  no_whole reported octets e lt (at_start d f) v hv q = laws.no_value octets d lt f v [] hv (q ∙ sym (append-nil (octets_of v))) (reported v hv)
  no_whole reported octets e lt (left_over w rest hw p ew some) v hv q = all_there w v rest octets hw hv ew (reported v hv) p q some

  one_whole : (octets : List ℕ) (e d : Asn1DerError) → length octets < 2 ^ 64 → WholeError is_value octets_of ends error octets e → WholeError is_value octets_of ends error octets d → e ≡ d
  one_whole octets e d lt (at_start e2 f) (at_start d2 g) = laws.one_error octets e2 d2 lt f g
  one_whole octets e d lt (at_start e2 f) (left_over w rest hw p ew some) = absurd (laws.no_value octets e2 lt f w rest hw p ew)
  one_whole octets e d lt (left_over w rest hw p ew some) (at_start d2 g) = absurd (laws.no_value octets d2 lt g w rest hw p ew)
  one_whole octets e d lt (left_over w rest hw p ew some) (left_over v x hv q ev more) = refl

  pub whole_laws : ((v : A) → is_value v → ends v []) → ContentLaws is_value octets_of (WholeError is_value octets_of ends error)
  whole_laws reported = record { no_value = no_whole reported; one_error = one_whole }

module _ {A : Type 0} (is_value : A → Type 0) (enc : A → List ℕ) (first : ℕ → Bool) (element : (v : A) → is_value v → IsElement first (enc v)) (error : ℕ → List ℕ → Asn1DerError → Type 0) (laws : ErrorLaws is_value enc error) (one : OneValue is_value enc) where
  pub value_laws : ContentLaws is_value enc (ValueError is_value enc first error)
  value_laws = whole_laws is_value enc (λ v rest. Unit {0}) (PrefixError first error) (prefix_laws is_value enc first element error laws one) (λ v h. tt)

-- ---- values in a row

module _ {A : Type 0} (is_value : A → Type 0) (enc : A → List ℕ) (error : List ℕ → Asn1DerError → Type 0) (laws : PrefixLaws is_value enc (λ v rest. Unit {0}) error) (some : (v : A) → is_value v → 0 < length (enc v)) where
  one_more : (v : A) (vs : List A) (x : List ℕ) → flat_map enc (v ∷ vs) ++ x ≡ enc v ++ (flat_map enc vs ++ x)
  one_more v vs x = append_assoc (enc v) (flat_map enc vs) x

  not_empty : (v : A) (x : List ℕ) → is_value v → [] ≡ enc v ++ x → ⊥
  not_empty v x h e = omega (arith, ap length e, length-append (enc v) x, some v h)

  -- where a row ends in an error, no row of values is all of it
  no_row : (xs ys : List A) (rest : List ℕ) (e : Asn1DerError) → length rest < 2 ^ 64 → 0 < length rest → error rest e → AllByRecursion is_value xs → AllByRecursion is_value ys → flat_map enc xs ++ rest ≡ flat_map enc ys → ⊥
  no_row [] [] rest e lt left f hx hy q = omega (arith, ap length q, left)
  no_row [] (y ∷ ys) rest e lt left f hx hy q = laws.no_value rest e lt f y (flat_map enc ys) hy.0 q tt
  no_row (x ∷ xs) [] rest e lt left f hx hy q = not_empty x (flat_map enc xs ++ rest) hx.0 (sym q ∙ one_more x xs rest)
  no_row (x ∷ xs) (y ∷ ys) rest e lt left f hx hy q = no_row xs ys rest e lt left f hx.1 hy.1 (laws.one_rest x y (flat_map enc xs ++ rest) (flat_map enc ys) hx.0 hy.0 tt tt (sym (one_more x xs rest) ∙ q))

  -- two errors of a row are at one place
  same_place : (xs ys : List A) (x y : List ℕ) (e d : Asn1DerError) → length x < 2 ^ 64 → length y < 2 ^ 64 → AllByRecursion is_value xs → AllByRecursion is_value ys → error x e → error y d → flat_map enc xs ++ x ≡ flat_map enc ys ++ y → e ≡ d
  same_place [] [] x y e d lt less hx hy f g q = laws.one_error y e d less (subst (λ (l : List ℕ). error l e) q f) g
  same_place [] (w ∷ ws) x y e d lt less hx hy f g q = absurd (laws.no_value x e lt f w (flat_map enc ws ++ y) hy.0 (q ∙ one_more w ws y) tt)
  same_place (v ∷ vs) [] x y e d lt less hx hy f g q = absurd (laws.no_value y d less g v (flat_map enc vs ++ x) hx.0 (sym q ∙ one_more v vs x) tt)
  same_place (v ∷ vs) (w ∷ ws) x y e d lt less hx hy f g q =
      same_place vs ws x y e d lt less hx.1 hy.1 f g (laws.one_rest v w (flat_map enc vs ++ x) (flat_map enc ws ++ y) hx.0 hy.0 tt tt (sym (one_more v vs x) ∙ q ∙ one_more w ws y))

  left_short : (octets : List ℕ) (e : Asn1DerError) (f : RowError is_value enc error octets e) → length octets < 2 ^ 64 → length f.rest < 2 ^ 64
  left_short octets e f lt = omega (arith, ap length f.parts, length-append (flat_map enc f.items) f.rest, lt)

  pub row_laws : ContentLaws (AllByRecursion is_value) (flat_map enc) (RowError is_value enc error)
  row_laws = record {
    no_value = λ octets e lt f v hv q. no_row f.items v f.rest e (left_short octets e f lt) f.some_left f.first_left f.values hv (sym f.parts ∙ q);
    one_error = λ octets e d lt f g. same_place f.items g.items f.rest g.rest e d (left_short octets e f lt) (left_short octets d g lt) f.values g.values f.first_left g.first_left (sym f.parts ∙ g.parts);
  }

element_some : (first : ℕ → Bool) (b : List ℕ) → IsElement first b → 0 < length b
unfolding tlv
element_some first b h = omega (arith, ap length h.whole)

module _ {A : Type 0} (is_value : A → Type 0) (enc : A → List ℕ) (first : ℕ → Bool) (element : (v : A) → is_value v → IsElement first (enc v)) (error : ℕ → List ℕ → Asn1DerError → Type 0) (laws : ErrorLaws is_value enc error) (one : OneValue is_value enc) where
  pub list_laws : ContentLaws (AllByRecursion is_value) (flat_map enc) (RowError is_value enc (PrefixError first error))
  list_laws = row_laws is_value enc (PrefixError first error) (prefix_laws is_value enc first element error laws one) (λ v h. element_some first (enc v) (element v h))

-- ---- tags

module _ {A : Type 0} (wanted : ℕ) (is_value : A → Type 0) (content_of : A → List ℕ) (error : List ℕ → Asn1DerError → Type 0) (laws : ContentLaws is_value content_of error) where
  no_tagged : (t : ℕ) (content : List ℕ) (e : Asn1DerError) → length content < 2 ^ 64 → TaggedError wanted error t content e → (v : A) → is_value v → tlv t content ≡ tlv wanted (content_of v) → ⊥
  no_tagged t content e lt (other_tag other) v hv q = other (tlv_apart t wanted content (content_of v) [] [] (ap (λ (l : List ℕ). l ++ []) q)).tag
  no_tagged t content e lt (in_content d same f) v hv q = laws.no_value content d lt f v hv (tlv_same t wanted content (content_of v) q)

  one_tagged : (t : ℕ) (content : List ℕ) (e d : Asn1DerError) → length content < 2 ^ 64 → TaggedError wanted error t content e → TaggedError wanted error t content d → e ≡ d
  one_tagged t content e d lt (other_tag other) (other_tag again) = refl
  one_tagged t content e d lt (other_tag other) (in_content d2 same g) = absurd (other same)
  one_tagged t content e d lt (in_content e2 same f) (other_tag other) = absurd (other same)
  one_tagged t content e d lt (in_content e2 same f) (in_content d2 again g) = laws.one_error content e2 d2 lt f g

  pub tagged_laws : ErrorLaws is_value (λ v. tlv wanted (content_of v)) (TaggedError wanted error)
  tagged_laws = record { no_value = no_tagged; one_error = one_tagged }
