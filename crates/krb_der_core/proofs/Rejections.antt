-- How an error inside an element becomes one of the element.
use Rattle.std.proofs.Common.{◌≡◌, ℕ, Bool, true, false, eqb, List, [], ◌++◌, length, drop, get_or, sym, ap, subst, ◌∙◌, append_assoc}
use Rattle.std.proofs.lemmas.List.{append-nil}
use Rattle.krb_der_core.specs.declared.error.Asn1DerError.{Asn1DerError}
use Rattle.krb_der_core.specs.declared.error.Asn1DerError.TheVariants as errors
use Rattle.krb_der_core.specs.Tlv.{tlv}
use Rattle.krb_der_core.specs.Encoding.{IsElement}
use Rattle.krb_der_core.specs.TlvLaws.{tlv_apart, tlv_same, same_tlvs}
use Rattle.krb_der_core.specs.Reading.{TakesPrefix, NoPrefix, NoBeginning, RejectsPrefix, RejectsAll, Encodings, Elements}
use Rattle.krb_der_core.proofs.Elements.{nothing_read, other_tag, same_first}
use Rattle.krb_der_core.specs.LengthLaws.{NoMeet, rejected_from_meet, prefix_from_meet}

-- where a prefix of the input is an encoding too, trailing octets are rejected
rejects_met : (P Q : List ℕ → Type 0) (input : List ℕ) (e : Asn1DerError) → ((b x y : List ℕ) → Q b → input ++ x ≡ b ++ y → P b)
    → RejectsPrefix P input e → RejectsPrefix Q input e
rejects_met P Q input errors.OutOfMemory h r = tt
rejects_met P Q input errors.TruncatedData h r = λ b rest q k. r b rest (h b [] rest q (append-nil input ∙ k)) k
rejects_met P Q input errors.InvalidData h r = (λ b rest q k. r.0 b rest (h b [] rest q (append-nil input ∙ k)) k, λ b rest q k. r.1 b rest (h b rest [] q (sym k ∙ sym (append-nil b))) k)
rejects_met P Q input errors.UnsupportedValue h r = (λ b rest q k. r.0 b rest (h b [] rest q (append-nil input ∙ k)) k, λ b rest q k. r.1 b rest (h b rest [] q (sym k ∙ sym (append-nil b))) k)
rejects_met P Q input (errors.Io io) h r = r

-- an error other than an allocation failure
pub rejects_other : {A B : Type 0} (va : A → Type 0) (ca : A → List ℕ) (vb : B → Type 0) (cb : B → List ℕ) (x y : List ℕ) (e : Asn1DerError)
    → (((a : A) → va a → x ≡ ca a → ⊥) → (b : B) → vb b → y ≡ cb b → ⊥) → RejectsAll va ca x e → RejectsAll vb cb y e
rejects_other va ca vb cb x y errors.OutOfMemory h r = tt
rejects_other va ca vb cb x y errors.TruncatedData h r = h r
rejects_other va ca vb cb x y errors.InvalidData h r = h r
rejects_other va ca vb cb x y errors.UnsupportedValue h r = h r
rejects_other va ca vb cb x y (errors.Io io) h r = r

module _ {A : Type 0} (is_value : A → Type 0) (enc : A → List ℕ) (first : ℕ → Bool) (element : (v : A) → is_value v → IsElement first (enc v)) where
  -- the encoding as an element
  as_element : (b : List ℕ) (q : Encodings is_value enc b) → Elements (element q.0 q.1).tag b
  as_element b q = ((element q.0 q.1).content, q.2, q.3 ∙ (element q.0 q.1).whole)

  pub none_read : (input : List ℕ) → eqb (length input) 0 ≡ true → NoPrefix (Encodings is_value enc) input
  none_read input h b rest q k = nothing_read (element q.0 q.1).tag input h b rest (as_element b q) k

  pub wrong_first : (input : List ℕ) → eqb (length input) 0 ≡ false → first (get_or input 0 0) ≡ false → NoPrefix (Encodings is_value enc) input × NoBeginning (Encodings is_value enc) input
  wrong_first input ne wrong = rejected_from_meet (Encodings is_value enc) input (λ b x y q k.
      let e = element q.0 q.1 in
      other_tag e.tag input ne (λ same. let c : true ≡ false = sym e.begins ∙ ap first (sym same) ∙ wrong in cc) b x y (as_element b q) k)

  pub no_element : (t : ℕ) (input : List ℕ) (e : Asn1DerError) → eqb (length input) 0 ≡ false → get_or input 0 0 ≡ t → RejectsPrefix (Elements t) input e → RejectsPrefix (Encodings is_value enc) input e
  no_element t input e ne is r = rejects_met (Elements t) (Encodings is_value enc) input e (λ b x y q k.
      let same : get_or input 0 0 ≡ (element q.0 q.1).tag = same_first (element q.0 q.1).tag input b x y ne (as_element b q) k in
      subst (λ (u : ℕ). Elements u b) (sym same ∙ is) (as_element b q)) r

  met_element : (t n : ℕ) (c input : List ℕ) → TakesPrefix (tlv t c) n input → ((v : A) → is_value v → tlv t c ≡ enc v → ⊥) → NoMeet (Encodings is_value enc) input
  met_element t n c input f none b x y q k =
      let e = element q.0 q.1 in
      let m : tlv t c ++ (drop n input ++ x) ≡ tlv e.tag e.content ++ y = sym (append_assoc (tlv t c) (drop n input) x) ∙ ap (λ (l : List ℕ). l ++ x) (sym f.prefix) ∙ k ∙ ap (λ (l : List ℕ). l ++ y) (q.3 ∙ e.whole) in
      let s = tlv_apart t e.tag c e.content (drop n input ++ x) y m in
      none q.0 q.1 (same_tlvs t e.tag c e.content s.tag s.content ∙ sym e.whole)

  pub trailing_element : (t n : ℕ) (c input : List ℕ) (e : Asn1DerError) → TakesPrefix (tlv t c) n input → RejectsAll is_value enc (tlv t c) e → RejectsPrefix (Encodings is_value enc) input e
  trailing_element t n c input errors.OutOfMemory f r = tt
  trailing_element t n c input errors.TruncatedData f r = prefix_from_meet (Encodings is_value enc) input (met_element t n c input f r)
  trailing_element t n c input errors.InvalidData f r = rejected_from_meet (Encodings is_value enc) input (met_element t n c input f r)
  trailing_element t n c input errors.UnsupportedValue f r = rejected_from_meet (Encodings is_value enc) input (met_element t n c input f r)
  trailing_element t n c input (errors.Io io) f r = r

-- another tag than the expected one
pub unwanted : {A : Type 0} (is_content : A → Type 0) (content : A → List ℕ) (wanted t : ℕ) (c : List ℕ) → (t ≡ wanted → ⊥) → (v : A)
    → is_content v → tlv t c ≡ tlv wanted (content v) → ⊥
unwanted is_content content wanted t c other v hv k = other (tlv_apart t wanted c (content v) [] [] (ap (λ (l : List ℕ). l ++ []) k)).tag

pub no_content : {A : Type 0} (is_content : A → Type 0) (content : A → List ℕ) (t : ℕ) (c : List ℕ) (e : Asn1DerError)
    → RejectsAll is_content content c e → RejectsAll is_content (λ v. tlv t (content v)) (tlv t c) e
no_content is_content content t c e r = rejects_other is_content content is_content (λ v. tlv t (content v)) c (tlv t c) e (λ none v hv k. none v hv (tlv_same t t c (content v) k)) r

-- a value is rejected as its parts are
pub parts_rejected : {A F : Type 0} (parts : A → F) (is_content : F → Type 0) (content : F → List ℕ) (input : List ℕ) (e : Asn1DerError)
    → RejectsAll is_content content input e → RejectsAll (λ v. is_content (parts v)) (λ v. content (parts v)) input e
parts_rejected parts is_content content input e r = rejects_other is_content content (λ v. is_content (parts v)) (λ v. content (parts v)) input input e (λ none v hv k. none (parts v) hv k) r
