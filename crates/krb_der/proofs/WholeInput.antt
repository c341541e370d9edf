-- A whole input is one encoding.
use Rattle.std.proofs.Common.{◌≡◌, ℕ, ◌<◌, ◌^◌, ◌⊎◌, Bool, List, [], ◌++◌, length, drop, refl, sym, ap, ◌∙◌, append_assoc, arith, inl, inr}
use Rattle.std.proofs.lemmas.List.{append-nil, length-append, drop_all}
use Rattle.krb_der_core.specs.declared.error.Asn1DerError.{Asn1DerError}
use Rattle.krb_der_core.specs.declared.error.Asn1DerError.TheVariants as errors
use Rattle.krb_der_core.specs.Reading.{TakesPrefix, RejectsPrefix, RejectsAll, Encodings}
use Rattle.krb_der.specs.Whole.{ReadsValue, NoDevice}
use Rattle.krb_der_core.proofs.Rejections.{no_content}
use Rattle.krb_der_core.specs.Tlv.{tlv}
use Rattle.std.specs.Prelude.{Result, Ok, Err, IfErr}
use Rattle.krb_der_core.specs.Encoding.{IsElement, OneValue}
use Rattle.krb_der_core.specs.TlvLaws.{field_apart}

module _ {A : Type 0} (is_value : A → Type 0) (enc : A → List ℕ) where
  pub err_again : (input : List ℕ) (e : Asn1DerError) → length input < 2 ^ 64 → RejectsPrefix (Encodings is_value enc) input e → (v : A) → is_value v → input ≡ enc v → e ≡ errors.OutOfMemory
  err_again input errors.OutOfMemory lt r v hv q = refl
  err_again input errors.TruncatedData lt r v hv q = absurd (r (enc v) [] (v, hv, omega (arith, ap length q), refl) (q ∙ sym (append-nil (enc v))))
  err_again input errors.InvalidData lt r v hv q = absurd (r.0 (enc v) [] (v, hv, omega (arith, ap length q), refl) (q ∙ sym (append-nil (enc v))))
  err_again input errors.UnsupportedValue lt r v hv q = absurd (r.0 (enc v) [] (v, hv, omega (arith, ap length q), refl) (q ∙ sym (append-nil (enc v))))
  err_again input (errors.Io io) lt r v hv q = absurd r

  pub err_cut : (input : List ℕ) (e : Asn1DerError) → RejectsPrefix (Encodings is_value enc) input e → (v : A) (rest : List ℕ) → is_value v → 0 < length rest → length (enc v) < 2 ^ 64 → enc v ≡ input ++ rest → (e ≡ errors.TruncatedData) ⊎ (e ≡ errors.OutOfMemory)
  err_cut input errors.OutOfMemory r v rest hv some lt q = inr refl
  err_cut input errors.TruncatedData r v rest hv some lt q = inl refl
  err_cut input errors.InvalidData r v rest hv some lt q = absurd (r.1 (enc v) rest (v, hv, lt, refl) q)
  err_cut input errors.UnsupportedValue r v rest hv some lt q = absurd (r.1 (enc v) rest (v, hv, lt, refl) q)
  err_cut input (errors.Io io) r v rest hv some lt q = absurd r

  shorter : (input e rest : List ℕ) → length input < 2 ^ 64 → input ≡ e ++ rest → length e < 2 ^ 64
  shorter input e rest lt q = omega (arith, ap length q, length-append e rest)

  pub err_more : (input : List ℕ) (e : Asn1DerError) → length input < 2 ^ 64 → RejectsPrefix (Encodings is_value enc) input e → (v : A) (rest : List ℕ) → is_value v → 0 < length rest → input ≡ enc v ++ rest → (e ≡ errors.InvalidData) ⊎ (e ≡ errors.OutOfMemory)
  err_more input errors.OutOfMemory lt r v rest hv some q = inr refl
  err_more input errors.TruncatedData lt r v rest hv some q = absurd (r (enc v) rest (v, hv, shorter input (enc v) rest lt q, refl) q)
  err_more input errors.InvalidData lt r v rest hv some q = inl refl
  err_more input errors.UnsupportedValue lt r v rest hv some q = absurd (r.0 (enc v) rest (v, hv, shorter input (enc v) rest lt q, refl) q)
  err_more input (errors.Io io) lt r v rest hv some q = absurd r

  pub whole_is : (a : A) (n : ℕ) (input : List ℕ) → TakesPrefix (enc a) n input → n ≡ length input → input ≡ enc a
  whole_is a n input f all = f.prefix ∙ ap (λ (l : List ℕ). enc a ++ l) (drop_all n input (omega arith)) ∙ append-nil (enc a)

  module _ (first : ℕ → Bool) (element : (v : A) → is_value v → IsElement first (enc v)) (one : OneValue is_value enc) where
    -- a value that was read, and octets after it, are no whole encoding
    pub not_all : (a v : A) (n : ℕ) (input : List ℕ) → is_value a → is_value v → TakesPrefix (enc a) n input → (n ≡ length input → ⊥) → input ≡ enc v → ⊥
    not_all a v n input ha hv f more q =
        let s = field_apart enc is_value first element one a v (drop n input) [] ha hv (sym f.prefix ∙ q ∙ sym (append-nil (enc v))) in
        more (f.count ∙ ap (λ (w : A). length (enc w)) s.0 ∙ sym (ap length q))

    -- no encoding goes on after one
    pub not_cut : (a v : A) (n : ℕ) (input rest : List ℕ) → is_value a → is_value v → TakesPrefix (enc a) n input → 0 < length rest → enc v ≡ input ++ rest → ⊥
    not_cut a v n input rest ha hv f some q =
        let k : enc a ++ (drop n input ++ rest) ≡ enc v ++ [] = sym (append_assoc (enc a) (drop n input) rest) ∙ ap (λ (l : List ℕ). l ++ rest) (sym f.prefix) ∙ sym q ∙ sym (append-nil (enc v)) in
        let s = field_apart enc is_value first element one a v (drop n input ++ rest) [] ha hv k in
        omega (arith, ap length s.1, length-append (drop n input) rest)

    pub no_more : (a v : A) (input rest : List ℕ) → is_value a → is_value v → input ≡ enc a → 0 < length rest → input ≡ enc v ++ rest → ⊥
    no_more a v input rest ha hv all some q =
        let s = field_apart enc is_value first element one a v [] rest ha hv (append-nil (enc a) ∙ sym all ∙ q) in
        omega (arith, ap length s.1)

-- what `from_bytes` rejects is no encoding
pub not_whole : {A : Type 0} (is_value : A → Type 0) (enc : A → List ℕ) (input : List ℕ) (e : Asn1DerError)
    → ((v : A) → is_value v → input ≡ enc v → e ≡ errors.OutOfMemory) → NoDevice e → RejectsAll is_value enc input e
not_whole is_value enc input errors.OutOfMemory h r = tt
not_whole is_value enc input errors.TruncatedData h r = λ v hv q. absurd (let k = h v hv q in cc)
not_whole is_value enc input errors.InvalidData h r = λ v hv q. absurd (let k = h v hv q in cc)
not_whole is_value enc input errors.UnsupportedValue h r = λ v hv q. absurd (let k = h v hv q in cc)
not_whole is_value enc input (errors.Io io) h r = r

-- what is rejected as a content is rejected under its tag
pub around_rejected : {A : Type 0} (is_value : A → Type 0) (enc : A → List ℕ) (tag : ℕ) (content : List ℕ) (r : Result A Asn1DerError)
    → ReadsValue is_value enc content r → IfErr r NoDevice
    → IfErr r (RejectsAll is_value (λ v. tlv tag (enc v)) (tlv tag content))
around_rejected is_value enc tag content (Ok v) reads device = tt
around_rejected is_value enc tag content (Err e) reads device = no_content is_value enc tag content e (not_whole is_value enc content e reads device)

pub no_device : (P : List ℕ → Type 0) (input : List ℕ) (e : Asn1DerError) → RejectsPrefix P input e → NoDevice e
no_device P input errors.OutOfMemory r = tt
no_device P input errors.TruncatedData r = tt
no_device P input errors.InvalidData r = tt
no_device P input errors.UnsupportedValue r = tt
no_device P input (errors.Io e) r = r
