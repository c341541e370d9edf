-- What octets are read as, field by field.
use Rattle.std.proofs.Common.{◌≡◌, ℕ, ◌<◌, ◌^◌, Bool, true, false, eqb, eq-eqb, List, [], ◌∷◌, ◌++◌, length, Option, Some, None, refl, sym, ap, subst, ◌∙◌, append_assoc, arith, inl, inr}
use Rattle.std.specs.Prelude.{IfSome}
use Rattle.std.specs.Str.{IsUtf8}
use Rattle.std.proofs.lemmas.Bool.{eqb-true, false≢true}
use Rattle.std.proofs.lemmas.List.{append-nil}
use Rattle.krb_der_core.specs.declared.error.Asn1DerError.{Asn1DerError}
use Rattle.krb_der_core.specs.declared.error.Asn1DerError.TheVariants as errors
use Rattle.krb_der_core.specs.Tlv.{tlv}
use Rattle.krb_der_core.specs.Encoding.{IsOctets, OneValue, optional}
use Rattle.krb_der_core.specs.Errors.{PrefixLaws, OrMemory}
use Rattle.krb_der_core.specs.TlvLaws.{tagged_one_value, tlv_apart, tlv_same}
use Rattle.krb_der_core.specs.PrimitiveLaws.{same_one_content}
use Rattle.krb_der_core.specs.BitString.{Bits, IsBits, bits_content}
use Rattle.krb_der_core.specs.BitStringLaws.{bits_one_content}
use Rattle.krb_der.specs.declared.optional.Optional.{Optional}
use Rattle.krb_der.specs.FieldErrors.{IsAbsent}
use Rattle.krb_der.specs.FieldLaws.{same_optional}
use Rattle.krb_gss_tokens.specs.declared.iakerb_header.messages.header.IAKerbHeader.{IAKerbHeader}
use Rattle.krb_gss_tokens.specs.Fields.{Begins, IsDetermined}
use Rattle.krb_gss_tokens.specs.Header.{ContentReads, cookie, flags, realm}

-- ---- octets

element_begins : (tag : ℕ) (c y : List ℕ) → Begins tag (tlv tag c ++ y)
unfolding tlv
element_begins tag c y = refl

other_begins : (tag other : ℕ) (c y : List ℕ) → Begins other (tlv tag c ++ y) → tag ≡ other
unfolding tlv
other_begins tag other c y h = h

absent_other : (tag : ℕ) (y : List ℕ) → IsAbsent (λ t. eqb t tag) y → Begins tag y → ⊥
absent_other tag [] a b = b
absent_other tag (t ∷ y) a b = false≢true (sym a ∙ eq-eqb t tag b)

unequal : (i j : ℕ) (b : Bool) → eqb i j ≡ b → (i ≡ j → ⊥) → eqb i j ≡ false
unequal i j true e other = absurd (other (eqb-true i j e))
unequal i j false e other = e

other_absent : (tag : ℕ) (y : List ℕ) → (Begins tag y → ⊥) → IsAbsent (λ t. eqb t tag) y
other_absent tag [] other = tt
other_absent tag (t ∷ y) other = unequal t tag (eqb t tag) refl other

-- ---- a field that may be absent

module _ {A : Type 0} (enc : A → List ℕ) (is_value : A → Type 0) (tag : ℕ) where
  pub distinguished : OneValue is_value enc → (v w : Option A) (x y : List ℕ) → IfSome v is_value → IfSome w is_value → IsDetermined tag v (optional (λ a. tlv tag (enc a)) v ++ x) → IsDetermined tag w (optional (λ a. tlv tag (enc a)) w ++ y)
      → optional (λ a. tlv tag (enc a)) v ++ x ≡ optional (λ a. tlv tag (enc a)) w ++ y → (v ≡ w) × (x ≡ y)
  distinguished one None None x y hv hw tv tw e = (refl, e)
  distinguished one None (Some w) x y hv hw tv tw e = absurd (false≢true (tv.1 (subst (λ (l : List ℕ). Begins tag l) (sym e) (element_begins tag (enc w) y))))
  distinguished one (Some v) None x y hv hw tv tw e = absurd (false≢true (tw.1 (subst (λ (l : List ℕ). Begins tag l) e (element_begins tag (enc v) x))))
  distinguished one (Some v) (Some w) x y hv hw tv tw e =
      let s = tlv_apart tag tag (enc v) (enc w) x y e in
      (ap Some (one v w hv hw s.content), s.rest)

  -- a field is determined where it ends, and ends where it is determined
  pub determined_by_end : (o : Option A) (y : List ℕ) → (o ≡ None → IsAbsent (λ t. eqb t tag) y) → IsDetermined tag o (optional (λ x. tlv tag (enc x)) o ++ y)
  determined_by_end None y end = (λ k. absurd (false≢true k), λ b. absurd (absent_other tag y (end refl) b))
  determined_by_end (Some v) y end = (λ k. element_begins tag (enc v) y, λ b. refl)

  pub end_when_determined : (o : Option A) (y : List ℕ) → IsDetermined tag o (optional (λ x. tlv tag (enc x)) o ++ y) → o ≡ None → IsAbsent (λ t. eqb t tag) y
  end_when_determined None y reported e = other_absent tag y (λ b. false≢true (reported.1 b))
  end_when_determined (Some v) y reported e = absurd (let k : Some v ≡ None = e in cc)

  -- a field that was written is determined, where what follows it begins with another tag or is nothing
  pub determined_when_written : (o : Option A) (y : List ℕ) → (Begins tag y → ⊥) → IsDetermined tag o (optional (λ x. tlv tag (enc x)) o ++ y)
  determined_when_written None y other = (λ k. absurd (false≢true k), λ b. absurd (other b))
  determined_when_written (Some v) y other = (λ k. element_begins tag (enc v) y, λ b. refl)

  pub other_written : (other : ℕ) (o : Option A) (y : List ℕ) → (tag ≡ other → ⊥) → (Begins other y → ⊥) → Begins other (optional (λ x. tlv tag (enc x)) o ++ y) → ⊥
  other_written other None y ne none b = none b
  other_written other (Some v) y ne none b = ne (other_begins tag other (enc v) y b)

-- ---- a header

pub same_header : (v w : IAKerbHeader) → v.target_realm ≡ w.target_realm → v.cookie.0 ≡ w.cookie.0 → v.flags.0 ≡ w.flags.0 → v ≡ w
same_header v w e f g =
    let mk : List ℕ → Optional (Option (List ℕ)) → Optional (Option Bits) → IAKerbHeader = λ a b c. record { target_realm = a; cookie = b; flags = c } in
    ap (λ (a : List ℕ). mk a v.cookie v.flags) e ∙ ap (λ (b : Optional (Option (List ℕ))). mk w.target_realm b v.flags) (same_optional v.cookie w.cookie f) ∙ ap (λ (c : Optional (Option Bits)). mk w.target_realm w.cookie c) (same_optional v.flags w.flags g)

-- ---- the known fields

abbrev pub KnownFields : Type 0
KnownFields = List ℕ × Optional (Option (List ℕ)) × Optional (Option Bits)

abbrev pub known_values : KnownFields → Type 0
known_values p = IsUtf8 p.0 × IfSome p.1.0 IsOctets × IfSome p.2.0 IsBits

abbrev pub known_octets : KnownFields → List ℕ
known_octets p = tlv 161 (tlv 12 p.0) ++ optional (λ x. tlv 162 (tlv 4 x)) p.1.0 ++ optional (λ x. tlv 163 (tlv 3 (bits_content x))) p.2.0

abbrev pub known_ends : KnownFields → List ℕ → Type 0
known_ends p rest = (Unit {0} × (p.1.0 ≡ None → IsAbsent (λ t. eqb t 162) (optional (λ x. tlv 163 (tlv 3 (bits_content x))) p.2.0 ++ rest))) × (p.2.0 ≡ None → IsAbsent (λ t. eqb t 163) rest)

abbrev pub known_fields : IAKerbHeader → KnownFields
known_fields h = (h.target_realm, h.cookie, h.flags)

in_order : (h : IAKerbHeader) (rest : List ℕ) → known_octets (known_fields h) ++ rest ≡ realm h ++ (cookie h ++ (flags h ++ rest))
in_order h rest = append_assoc (realm h ++ cookie h) (flags h) rest ∙ append_assoc (realm h) (cookie h) (flags h ++ rest)

pub content_found : (h : IAKerbHeader) (p : KnownFields) (content rest : List ℕ) → known_fields h ≡ p → content ≡ known_octets p ++ rest → known_ends p rest → ContentReads content h
content_found h p content rest same e ends =
    let own : known_ends (known_fields h) rest = subst (λ (q : KnownFields). known_ends q rest) (sym same) ends in
    record {
      rest = rest;
      fields = subst (λ (q : KnownFields). content ≡ known_octets q ++ rest) (sym same) e ∙ in_order h rest;
      cookie_determined = determined_by_end (λ (x : List ℕ). tlv 4 x) IsOctets 162 h.cookie.0 (flags h ++ rest) own.0.1;
      flags_determined = determined_by_end (λ (x : Bits). tlv 3 (bits_content x)) IsBits 163 h.flags.0 rest own.1;
    }

content_ends : (h : IAKerbHeader) (content : List ℕ) (r : ContentReads content h) → known_ends (known_fields h) r.rest
content_ends h content r =
    let cookie_ends = end_when_determined (λ (x : List ℕ). tlv 4 x) IsOctets 162 h.cookie.0 (flags h ++ r.rest) r.cookie_determined in
    let flags_end = end_when_determined (λ (x : Bits). tlv 3 (bits_content x)) IsBits 163 h.flags.0 r.rest r.flags_determined in
    ((tt, cookie_ends), flags_end)

octets_one : OneValue IsOctets (λ (x : List ℕ). tlv 4 x)
octets_one = tagged_one_value 4 IsOctets (λ (x : List ℕ). x) (same_one_content IsOctets)

bits_one : OneValue IsBits (λ (x : Bits). tlv 3 (bits_content x))
bits_one = tagged_one_value 3 IsBits bits_content bits_one_content

pub content_decides : (c d : List ℕ) (v w : IAKerbHeader) → IfSome v.cookie.0 IsOctets → IfSome w.cookie.0 IsOctets → IfSome v.flags.0 IsBits → IfSome w.flags.0 IsBits → ContentReads c v → ContentReads d w → c ≡ d → v ≡ w
content_decides c d v w cv cw fv fw r s e =
    let first = tlv_apart 161 161 (tlv 12 v.target_realm) (tlv 12 w.target_realm) _ _ (sym r.fields ∙ e ∙ s.fields) in
    let second = distinguished (λ (x : List ℕ). tlv 4 x) IsOctets 162 octets_one v.cookie.0 w.cookie.0 (flags v ++ r.rest) (flags w ++ s.rest) cv cw r.cookie_determined s.cookie_determined first.rest in
    let third = distinguished (λ (x : Bits). tlv 3 (bits_content x)) IsBits 163 bits_one v.flags.0 w.flags.0 r.rest s.rest fv fw r.flags_determined s.flags_determined second.1 in
    same_header v w (tlv_same 12 12 v.target_realm w.target_realm first.content) second.0 third.0

-- where the known fields have an error, no header is read
pub none_reads : (error : List ℕ → Asn1DerError → Type 0) → PrefixLaws known_values known_octets known_ends error → (content : List ℕ) (e : Asn1DerError) → length content < 2 ^ 64 → error content e
    → (h : IAKerbHeader) → known_values (known_fields h) → ContentReads content h → ⊥
none_reads error laws content e lt k h hv r = laws.no_value content e lt k (known_fields h) r.rest hv (r.fields ∙ sym (in_order h r.rest)) (content_ends h content r)

pub only_memory : (error : List ℕ → Asn1DerError → Type 0) → PrefixLaws known_values known_octets known_ends error → (content : List ℕ) (e : Asn1DerError) → length content < 2 ^ 64 → OrMemory (error content) e
    → (h : IAKerbHeader) → known_values (known_fields h) → ContentReads content h → e ≡ errors.OutOfMemory
only_memory error laws content e lt (inl m) h hv r = m
only_memory error laws content e lt (inr k) h hv r = absurd (none_reads error laws content e lt k h hv r)

pub content_written : (h : IAKerbHeader) → ContentReads (realm h ++ cookie h ++ flags h) h
content_written h =
    let whole : realm h ++ cookie h ++ flags h ≡ realm h ++ (cookie h ++ (flags h ++ [])) = append_assoc (realm h) (cookie h) (flags h) ∙ ap (λ (l : List ℕ). realm h ++ (cookie h ++ l)) (sym (append-nil (flags h))) in
    record {
      rest = [];
      fields = whole;
      cookie_determined = determined_when_written (λ (x : List ℕ). tlv 4 x) IsOctets 162 h.cookie.0 (flags h ++ []) (other_written (λ (x : Bits). tlv 3 (bits_content x)) IsBits 163 162 h.flags.0 [] (λ e. omega (arith, e)) (λ b. b));
      flags_determined = determined_when_written (λ (x : Bits). tlv 3 (bits_content x)) IsBits 163 h.flags.0 [] (λ b. b);
    }
