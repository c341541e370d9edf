-- The fields of a sequence have one first error, and none where they stand.
use Rattle.std.proofs.Common.{◌≡◌, ℕ, ◌^◌, ◌<◌, Bool, true, false, List, [], ◌∷◌, ◌++◌, length, Option, Some, None, refl, sym, ap, subst, ◌∙◌, append_assoc, arith, inl, inr, length-append, ◌≤◌}
use Rattle.std.specs.Prelude.{IfSome}
use Rattle.krb_der_core.specs.declared.error.Asn1DerError.{Asn1DerError}
use Rattle.krb_der_core.specs.Tlv.{tlv}
use Rattle.krb_der_core.specs.TlvLaws.{field_apart}
use Rattle.krb_der_core.specs.Encoding.{IsElement, OneValue, BeginsWith, Apart, optional}
use Rattle.krb_der_core.specs.Errors.{WholeError, ErrorLaws, ContentLaws, PrefixLaws}
use Rattle.krb_der_core.specs.ErrorLaws.{prefix_laws, whole_laws, tagged_laws}
use Rattle.krb_der.specs.declared.optional.Optional.{Optional}
use Rattle.krb_der.specs.declared.sequence.Sequence.{Ghosts as SequenceOf}
use Rattle.krb_der.specs.declared.sequence.Fields.{Ghosts as FieldsOf}
use Rattle.krb_der.specs.FieldErrors.{in_left, in_right}
use Rattle.krb_der.specs.FieldErrors.{IsBegun, IsAbsent, OptionalError, PairError, NumberError, sequence_error}
use Rattle.krb_der.specs.Grouping.{BeginSo, DistinguishedEnds}
use Rattle.krb_der.specs.Composite.{nothing}
use Rattle.krb_der.specs.FieldLaws.{element_first, element_long}
use Rattle.krb_der.specs.SequenceLaws.{values_of}

-- ---- optional fields

begun_absent : (first : ℕ → Bool) (octets : List ℕ) → IsBegun first octets → IsAbsent first octets → ⊥
begun_absent first [] b a = b
begun_absent first (t ∷ rest) b a = let k : true ≡ false = sym b ∙ a in cc

starts_begun : (first : ℕ → Bool) (octets : List ℕ) → 0 < length octets → BeginsWith first octets → IsBegun first octets
starts_begun first [] lt h = absurd (omega arith)
starts_begun first (t ∷ rest) lt h = h

absent_first : (first follow : ℕ → Bool) (t : ℕ) (b : Bool) → first t ≡ b → Apart first follow → follow t ≡ true → first t ≡ false
absent_first first follow t true e is_apart h = let k : true ≡ false = sym h ∙ is_apart t e in absurd cc
absent_first first follow t false e is_apart h = e

absent_distinguished : (first follow : ℕ → Bool) (x : List ℕ) → Apart first follow → BeginsWith follow x → IsAbsent first x
absent_distinguished first follow [] is_apart h = tt
absent_distinguished first follow (t ∷ rest) is_apart h = absent_first first follow t (first t) refl is_apart h

module _ {A : Type 0} (enc : A → List ℕ) (is_value : A → Type 0) (first : ℕ → Bool) (element : (v : A) → is_value v → IsElement first (enc v)) where
  begins_begun : (v : A) (x octets : List ℕ) → is_value v → octets ≡ enc v ++ x → IsBegun first octets
  begins_begun v x octets h e = rw e (starts_begun first (enc v ++ x) (element_long first (enc v) x (element v h)) (element_first first (enc v) x (element v h)))

  pub optional_distinguished : DistinguishedEnds (λ follow. Apart first follow) (λ (v : Optional (Option A)). IfSome v.0 is_value) (λ v x. v.0 ≡ None → IsAbsent first x)
  optional_distinguished follow is_apart v x h hx none = absent_distinguished first follow x is_apart hx

  module _ (one : OneValue is_value enc) (error : ℕ → List ℕ → Asn1DerError → Type 0) (laws : ErrorLaws is_value enc error) where
    no_option : (octets : List ℕ) (e : Asn1DerError) → length octets < 2 ^ 64 → OptionalError first error octets e → (o : Option A) (rest : List ℕ) → IfSome o is_value → octets ≡ optional enc o ++ rest → (o ≡ None → IsAbsent first rest) → ⊥
    no_option octets e lt f None rest h q ends = begun_absent first octets f.0 (rw q (ends refl))
    no_option octets e lt f (Some v) rest h q ends = (prefix_laws is_value enc first element error laws one).no_value octets e lt f.1 v rest h q tt

    one_option_rest : (o p : Option A) (x y : List ℕ) → IfSome o is_value → IfSome p is_value → (o ≡ None → IsAbsent first x) → (p ≡ None → IsAbsent first y) → optional enc o ++ x ≡ optional enc p ++ y → x ≡ y
    one_option_rest None None x y h k ends stops e = e
    one_option_rest None (Some w) x y h k ends stops e = absurd (begun_absent first x (begins_begun w y x k e) (ends refl))
    one_option_rest (Some v) None x y h k ends stops e = absurd (begun_absent first y (begins_begun v x y h (sym e)) (stops refl))
    one_option_rest (Some v) (Some w) x y h k ends stops e = (field_apart enc is_value first element one v w x y h k e).1

    pub optional_laws : PrefixLaws (λ (v : Optional (Option A)). IfSome v.0 is_value) (λ v. optional enc v.0) (λ v x. v.0 ≡ None → IsAbsent first x) (OptionalError first error)
    optional_laws = record {
      no_value = λ octets e lt f v rest h q ends. no_option octets e lt f v.0 rest h q ends;
      one_error = λ octets e d lt f g. (prefix_laws is_value enc first element error laws one).one_error octets e d lt f.1 g.1;
      one_rest = λ v w x y h k ends stops e. one_option_rest v.0 w.0 x y h k ends stops e;
    }

-- ---- fields after fields

module _ {L R : Type 0} (are_l : L → Type 0) (l_octets : L → List ℕ) (l_ends : L → List ℕ → Type 0) (l_error : List ℕ → Asn1DerError → Type 0) (l_laws : PrefixLaws are_l l_octets l_ends l_error)
    (are_r : R → Type 0) (r_octets : R → List ℕ) (r_ends : R → List ℕ → Type 0) (r_error : List ℕ → Asn1DerError → Type 0) (r_laws : PrefixLaws are_r r_octets r_ends r_error) where
  -- what follows the left fields is shorter than all
  shorter : (v : L) (rest octets : List ℕ) → octets ≡ l_octets v ++ rest → length octets < 2 ^ 64 → length rest < 2 ^ 64
  shorter v rest octets e lt = omega (arith, ap length e, length-append (l_octets v) rest)

  no_pair : (octets : List ℕ) (e : Asn1DerError) → length octets < 2 ^ 64 → PairError are_l l_octets l_ends l_error r_error octets e → (v : L × R) (rest : List ℕ) → are_l v.0 × are_r v.1 → octets ≡ (l_octets v.0 ++ r_octets v.1) ++ rest
      → l_ends v.0 (r_octets v.1 ++ rest) × r_ends v.1 rest → ⊥
  no_pair octets e lt (in_left d f) v rest h q ends = l_laws.no_value octets d lt f v.0 (r_octets v.1 ++ rest) h.0 (q ∙ append_assoc (l_octets v.0) (r_octets v.1) rest) ends.0
  no_pair octets e lt (in_right w x d hw p ew f) v rest h q ends =
      let k : x ≡ r_octets v.1 ++ rest = l_laws.one_rest w v.0 x (r_octets v.1 ++ rest) hw h.0 ew ends.0 (sym p ∙ q ∙ append_assoc (l_octets v.0) (r_octets v.1) rest) in
      r_laws.no_value x d (shorter w x octets p lt) f v.1 rest h.1 k ends.1

  one_pair : (octets : List ℕ) (e d : Asn1DerError) → length octets < 2 ^ 64 → PairError are_l l_octets l_ends l_error r_error octets e → PairError are_l l_octets l_ends l_error r_error octets d → e ≡ d
  one_pair octets e d lt (in_left e2 f) (in_left d2 g) = l_laws.one_error octets e2 d2 lt f g
  one_pair octets e d lt (in_left e2 f) (in_right w x d2 hw p ew g) = absurd (l_laws.no_value octets e2 lt f w x hw p ew)
  one_pair octets e d lt (in_right w x e2 hw p ew f) (in_left d2 g) = absurd (l_laws.no_value octets d2 lt g w x hw p ew)
  one_pair octets e d lt (in_right v y e2 hv q ev f) (in_right w x d2 hw p ew g) =
      let k : y ≡ x = l_laws.one_rest v w y x hv hw ev ew (sym q ∙ p) in
      r_laws.one_error x e2 d2 (shorter w x octets p lt) (subst (λ (l : List ℕ). r_error l e2) k f) g

  one_pair_rest : (v w : L × R) (x y : List ℕ) → are_l v.0 × are_r v.1 → are_l w.0 × are_r w.1 → l_ends v.0 (r_octets v.1 ++ x) × r_ends v.1 x → l_ends w.0 (r_octets w.1 ++ y) × r_ends w.1 y
      → (l_octets v.0 ++ r_octets v.1) ++ x ≡ (l_octets w.0 ++ r_octets w.1) ++ y → x ≡ y
  one_pair_rest v w x y h k ev ew e =
      let f : l_octets v.0 ++ (r_octets v.1 ++ x) ≡ l_octets w.0 ++ (r_octets w.1 ++ y) = sym (append_assoc (l_octets v.0) (r_octets v.1) x) ∙ e ∙ append_assoc (l_octets w.0) (r_octets w.1) y in
      r_laws.one_rest v.1 w.1 x y h.1 k.1 ev.1 ew.1 (l_laws.one_rest v.0 w.0 (r_octets v.1 ++ x) (r_octets w.1 ++ y) h.0 k.0 ev.0 ew.0 f)

  pub pair_laws : PrefixLaws (λ (v : L × R). are_l v.0 × are_r v.1) (λ v. l_octets v.0 ++ r_octets v.1) (λ v x. l_ends v.0 (r_octets v.1 ++ x) × r_ends v.1 x) (PairError are_l l_octets l_ends l_error r_error)
  pair_laws = record { no_value = no_pair; one_error = one_pair; one_rest = one_pair_rest }

  pub pair_distinguished : (l_distinguished r_distinguished : (ℕ → Bool) → Type 0) (r_begins : (ℕ → Bool) → ℕ → Bool) → BeginSo are_r r_octets r_begins → DistinguishedEnds l_distinguished are_l l_ends → DistinguishedEnds r_distinguished are_r r_ends
      → DistinguishedEnds (λ follow. l_distinguished (r_begins follow) × r_distinguished follow) (λ (v : L × R). are_l v.0 × are_r v.1) (λ v x. l_ends v.0 (r_octets v.1 ++ x) × r_ends v.1 x)
  pair_distinguished l_distinguished r_distinguished r_begins so tl tr follow is_apart v x h hx = (tl (r_begins follow) is_apart.0 v.0 (r_octets v.1 ++ x) h.0 (so follow v.1 x h.1 hx), tr follow is_apart.1 v.1 x h.1 hx)

-- the laws of fields that are others in another grouping
pub regrouped_laws : {A B : Type 0} (to : A → B) (are_a : A → Type 0) (are_b : B → Type 0) (octets_of : B → List ℕ) (ends : B → List ℕ
    → Type 0) (error : List ℕ → Asn1DerError → Type 0)
    → PrefixLaws are_b octets_of ends error → ((v : A) → are_a v → are_b (to v)) → PrefixLaws are_a (λ v. octets_of (to v)) (λ v. ends (to v)) error
regrouped_laws to are_a are_b octets_of ends error laws h = record {
  no_value = λ octets e lt f v rest hv q ev. laws.no_value octets e lt f (to v) rest (h v hv) q ev;
  one_error = laws.one_error;
  one_rest = λ v w x y hv hw ev ew e. laws.one_rest (to v) (to w) x y (h v hv) (h w hw) ev ew e;
}

-- ---- sequences

pub parts_laws : {A F : Type 0} (parts : A → F) (is_content : F → Type 0) (content_of : F → List ℕ) (error : List ℕ → Asn1DerError
    → Type 0) → ContentLaws is_content content_of error → ContentLaws (λ v. is_content (parts v)) (λ v. content_of (parts v)) error
parts_laws parts is_content content_of error laws = record {
  no_value = λ content e lt f v hv q. laws.no_value content e lt f (parts v) hv q;
  one_error = laws.one_error;
}

pub sequence_error_laws : {A F : Type 0} (s : SequenceOf A F) (f : FieldsOf F) → f.distinguished nothing
    → ErrorLaws (values_of s f) (λ v. tlv 48 (f.octets (s.fields v))) (sequence_error f)
sequence_error_laws s f is_apart =
    let error = WholeError f.are_values f.octets f.ends f.error in
    tagged_laws 48 (values_of s f) (λ v. f.octets (s.fields v)) error (parts_laws s.fields f.are_values f.octets error (whole_laws f.are_values f.octets f.ends f.error f.error_laws (λ v hv. f.distinguished_ends nothing is_apart v [] hv tt)))

-- ---- application tags

pub number_laws : {A : Type 0} (n : ℕ) (is_value : A → Type 0) (enc : A → List ℕ) (error : ℕ → List ℕ → Asn1DerError → Type 0)
    → ErrorLaws is_value enc error → ErrorLaws (λ v. is_value v × (n ≤ 30)) enc (NumberError n error)
number_laws {A} n is_value enc error laws = record { no_value = none; one_error = one } where
  none : (t : ℕ) (content : List ℕ) (e : Asn1DerError) → length content < 2 ^ 64 → NumberError n error t content e → (v : A) → is_value v × (n ≤ 30) → tlv t content ≡ enc v → ⊥
  none t content e lt (inl f) v hv q = omega (arith, f.0, hv.1)
  none t content e lt (inr f) v hv q = laws.no_value t content e lt f.1 v hv.0 q

  one : (t : ℕ) (content : List ℕ) (e d : Asn1DerError) → length content < 2 ^ 64 → NumberError n error t content e → NumberError n error t content d → e ≡ d
  one t content e d lt (inl f) (inl g) = f.1 ∙ sym g.1
  one t content e d lt (inl f) (inr g) = absurd (omega (arith, f.0, g.0))
  one t content e d lt (inr f) (inl g) = absurd (omega (arith, f.0, g.0))
  one t content e d lt (inr f) (inr g) = laws.one_error t content e d lt f.1 g.1
