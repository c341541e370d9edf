-- The first error of octets that are to be an encoding of a type, and what `from_bytes` tells of it.
use Rattle.std.proofs.Common.{◌≡◌, ◌⊎◌, inl, inr, ℕ, ◌+◌, ◌-◌, ◌<◌, ◌≤◌, ◌^◌, refl, sym, ap, ◌∙◌, arith, Bool, true, List, [], ◌∷◌, ◌++◌, length}
use Rattle.std.proofs.Math.Dec.{eqb-suc-zero}
use Rattle.std.proofs.lemmas.List.{append-nil, append_assoc, length-append}
use Rattle.std.specs.Int.Digits.{digits_of}
use Rattle.krb_der.specs.Whole.{NoDevice}
use Rattle.krb_der_core.specs.ErrorLaws.{clash, content_fits, value_laws}
use Rattle.krb_der_core.specs.Errors.{LengthError, PrefixError, ValueError}
use Rattle.krb_der_core.specs.Errors.{at_start, cut_content, cut_length, left_over, long_length, no_length, no_tag, other_form, wrong_content, wrong_length, wrong_tag}
use Rattle.krb_der_core.specs.LengthLaws.{LongLength, bad_first, meets, prefixes_split}
use Rattle.krb_der_core.specs.Reading.{Lengths, NoPrefix}
use Rattle.krb_der_core.specs.Tlv.{len, tlv}
use Rattle.krb_der_core.specs.TlvLaws.{field_apart, len-large, same_heads, tlv_apart}
use Rattle.krb_der_core.specs.declared.der.DerEncode.{Ghosts as EncodingOf}
use Rattle.krb_der_core.specs.declared.error.Asn1DerError.{Asn1DerError}
use Rattle.krb_der_core.specs.declared.error.Asn1DerError.TheVariants as errors
use Rattle.krb_show_row_laws.specs.Ties.{IsFirstError}

-- ---- of octets that go on to a length

-- those that have the digits of a length have the length
has_length : (n first : ℕ) (r x y : List ℕ) → n < 2 ^ 64 → first - 128 ≤ length r → LongLength n first r x y → NoPrefix Lengths (first ∷ r) → ⊥
has_length n first r x y lt le l none = by_split (prefixes_split r (digits_of 256 n) x y l.digits)
  where
    is_first : (rest : List ℕ) → r ≡ digits_of 256 n ++ rest → ⊥
    is_first rest e = none (len n) rest (n, lt, refl)
        (ap (λ (m : ℕ). m ∷ r) l.count ∙ ap (λ (o : List ℕ). (128 + length (digits_of 256 n)) ∷ o) e
        ∙ ap (λ (o : List ℕ). o ++ rest) (sym (len-large n l.large)))

    none_left : (s : List ℕ) → digits_of 256 n ≡ r ++ s → s ≡ []
    none_left [] e = refl
    none_left (i ∷ s) e = absurd (omega (arith, le, l.count, ap (λ (o : List ℕ). length o) e, length-append r (i ∷ s)))

    by_split : ((s : List ℕ) × (r ≡ digits_of 256 n ++ s)) ⊎ ((s : List ℕ) × (digits_of 256 n ≡ r ++ s)) → ⊥
    by_split (inl s) = is_first s.0 s.1
    by_split (inr s) = is_first []
        (sym (append-nil r) ∙ ap (λ (o : List ℕ). r ++ o) (sym (none_left s.0 s.1)) ∙ sym s.1 ∙ sym (append-nil (digits_of 256 n)))

-- the error of octets that go on to a length is that octets are missing
length_cut : (n : ℕ) (o x y : List ℕ) (e : Asn1DerError) → n < 2 ^ 64 → o ++ x ≡ len n ++ y → LengthError o e → e ≡ errors.TruncatedData
length_cut n o x y e lt q (no_length p) = refl
length_cut n o x y e lt q (other_form first r p (inl a)) =
    absurd (bad_first (first ∷ r) (eqb-suc-zero (length r)) (omega arith) (inl a) (len n) x y (n, lt, refl) (ap (λ (l : List ℕ). l ++ x) (sym p) ∙ q))
length_cut n o x y e lt q (other_form first r p (inr a)) =
    absurd (bad_first (first ∷ r) (eqb-suc-zero (length r)) (omega arith) (inr (omega arith, a)) (len n) x y (n, lt, refl)
    (ap (λ (l : List ℕ). l ++ x) (sym p) ∙ q))
length_cut n o x y e lt q (cut_length first r p gt le short) = refl
length_cut n o x y e lt q (long_length first r p gt le all none) = by_length (meets n first r x y lt (ap (λ (l : List ℕ). l ++ x) (sym p) ∙ q))
  where
    by_length : ((n < 128) × (first ≡ n)) ⊎ LongLength n first r x y → errors.InvalidData ≡ errors.TruncatedData
    by_length (inl h) = absurd (omega (arith, h.0, h.1, gt))
    by_length (inr l) = absurd (has_length n first r x y lt all l (λ b rest h f. none b rest h (p ∙ f)))

-- ---- of octets that go on to an element

-- what goes on to an element begins with its tag, and goes on to its length
begins : (t u : ℕ) (content a rest o : List ℕ) → o ≡ u ∷ a → tlv t content ≡ o ++ rest → (t ≡ u) × (len (length content) ++ content ≡ a ++ rest)
unfolding tlv
begins t u content a rest o p q = same_heads t u (len (length content) ++ content) (a ++ rest) (q ∙ ap (λ (l : List ℕ). l ++ rest) p)

none_more : (a rest : List ℕ) → 0 < length rest → [] ≡ a ++ rest → ⊥
none_more a rest some e = omega (arith, some, ap (λ (l : List ℕ). length l) e, length-append a rest)

prefix_cut : (first : ℕ → Bool) (error : ℕ → List ℕ → Asn1DerError → Type 0) (o : List ℕ) (e : Asn1DerError) (t : ℕ) (content rest : List ℕ) → first t ≡ true
    → length content < 2 ^ 64 → tlv t content ≡ o ++ rest → 0 < length rest → PrefixError first error o e → e ≡ errors.TruncatedData
prefix_cut first error o e t content rest h lt q some (no_tag p) = refl
prefix_cut first error o e t content rest h lt q some (wrong_tag u a p w) =
    absurd (clash (first u) (ap first (sym (begins t u content a rest o p q).0) ∙ h) w)
prefix_cut first error o e t content rest h lt q some (wrong_length u a d p w f) =
    length_cut (length content) a rest content d lt (sym (begins t u content a rest o p q).1) f
prefix_cut first error o e t content rest h lt q some (cut_content u n a p w less short) = refl
prefix_cut first error o e t content rest h lt q some (wrong_content u c a d p w less f) =
    absurd (none_more a rest some
    (tlv_apart t u content c [] (a ++ rest) (append-nil (tlv t content) ∙ q ∙ ap (λ (l : List ℕ). l ++ rest) p ∙ append_assoc (tlv u c) a rest)).rest)

-- ---- of octets that are to be an encoding

module _ {A : Type 0} (t : EncodingOf A) (octets : List ℕ) where
  value_cut : (why : Asn1DerError) → ValueError t.is_value t.enc t.first t.error octets why → (v : A) (rest : List ℕ) → t.is_value v → 0 < length rest
      → length (t.enc v) < 2 ^ 64 → t.enc v ≡ octets ++ rest → why ≡ errors.TruncatedData
  value_cut why (at_start d f) v rest hv some lt q =
      let b = t.is_element v hv in
      prefix_cut t.first t.error octets d b.tag b.content rest b.begins
      (content_fits b.tag b.content [] (t.enc v) (b.whole ∙ sym (append-nil (tlv b.tag b.content))) lt) (sym b.whole ∙ q) some f
  value_cut why (left_over w x hw p ends more) v rest hv some lt q =
      absurd (none_more x rest some
      (field_apart t.enc t.is_value t.first t.is_element t.one_value v w [] (x ++ rest) hv hw
      (append-nil (t.enc v) ∙ q ∙ ap (λ (l : List ℕ). l ++ rest) p ∙ append_assoc (t.enc w) x rest)).1)

  pub is_first_error : (why : Asn1DerError) → length octets < 2 ^ 64 → NoDevice why → ValueError t.is_value t.enc t.first t.error octets why
      → IsFirstError t octets why
  is_first_error why less no_device f =
      let laws = value_laws t.is_value t.enc t.first t.is_element t.error t.error_laws t.one_value in
      record {
        not_read = record {
          none = λ v h. laws.no_value octets why less f v h.0 h.1;
          first_error = f;
          cut = λ v rest hv some lt q. value_cut why f v rest hv some lt q;
          more = λ v rest hv some q. laws.one_error octets why errors.InvalidData less f (left_over v rest hv q tt some);
        };
        only = λ other g. laws.one_error octets other why less g f;
        no_device = no_device;
      }
