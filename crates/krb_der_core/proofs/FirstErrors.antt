-- Where the first error of octets stands, by what a reader saw.
use Rattle.std.proofs.Common.{◌≡◌, ℕ, ◌-◌, ◌^◌, ◌<◌, ◌≤◌, ◌⊎◌, Bool, true, false, eqb, eq-eqb, List, [], ◌∷◌, length, get_or, drop, refl, sym, ap, ◌∙◌, arith, inl, inr}
use Rattle.std.proofs.lemmas.Bool.{eqb-true}
use Rattle.krb_der_core.specs.declared.error.Asn1DerError.{Asn1DerError}
use Rattle.krb_der_core.specs.declared.error.Asn1DerError.TheVariants as errors
use Rattle.krb_der_core.specs.Tlv.{len, tlv}
use Rattle.std.specs.Prelude.{Result, Ok, Err, IfErr}
use Rattle.krb_der_core.specs.Reading.{TakesPrefix, Lengths, RejectsAll}
use Rattle.krb_der_core.specs.TlvLaws.{tlv_same}
use Rattle.krb_der_core.specs.ErrorLaws.{content_fits}
use Rattle.krb_der_core.specs.Errors.{no_length, other_form, cut_length, long_length, no_tag, wrong_tag, wrong_length, cut_content, wrong_content}
use Rattle.krb_der_core.specs.Errors.{LengthError, PrefixError, HeaderError, PrimitiveError, OrMemory}
use Rattle.krb_der_core.specs.LengthLaws.{NoMeet, prefix_from_meet}

is_none : (octets : List ℕ) → eqb (length octets) 0 ≡ true → octets ≡ []
is_none [] h = refl
is_none (i ∷ is) h = absurd (omega (arith, eqb-true (length (i ∷ is)) 0 h))

-- ---- length octets

pub length_missing : (octets : List ℕ) → eqb (length octets) 0 ≡ true → LengthError octets errors.TruncatedData
length_missing octets h = no_length (is_none octets h)

pub length_form : (octets : List ℕ) → eqb (length octets) 0 ≡ false
    → (get_or octets 0 0 ≡ 128) ⊎ ((get_or octets 0 0 ≡ 128 → ⊥) × (136 < get_or octets 0 0)) → LengthError octets errors.UnsupportedValue
length_form [] h bad = absurd cc
length_form (i ∷ is) h (inl a) = other_form i is refl (inl a)
length_form (i ∷ is) h (inr a) = other_form i is refl (inr a.1)

pub length_cut : (octets : List ℕ) → eqb (length octets) 0 ≡ false → 128 < get_or octets 0 0 → get_or octets 0 0 ≤ 136
    → length octets - 1 < get_or octets 0 0 - 128 → LengthError octets errors.TruncatedData
length_cut [] h ge le short = absurd cc
length_cut (i ∷ is) h ge le short = cut_length i is refl ge le (omega arith)

pub length_long : (octets : List ℕ) → eqb (length octets) 0 ≡ false → 128 < get_or octets 0 0 → get_or octets 0 0 ≤ 136
    → get_or octets 0 0 - 128 ≤ length octets - 1 → NoMeet Lengths octets → LengthError octets errors.InvalidData
length_long [] h ge le whole none = absurd cc
length_long (i ∷ is) h ge le whole none = long_length i is refl ge le (omega arith) (prefix_from_meet Lengths (i ∷ is) none)

-- ---- an element

module _ (first : ℕ → Bool) (error : ℕ → List ℕ → Asn1DerError → Type 0) where
  pub tag_missing : (octets : List ℕ) → eqb (length octets) 0 ≡ true → PrefixError first error octets errors.TruncatedData
  tag_missing octets h = no_tag (is_none octets h)

  pub tag_wrong : (octets : List ℕ) → eqb (length octets) 0 ≡ false → first (get_or octets 0 0) ≡ false → PrefixError first error octets errors.InvalidData
  tag_wrong [] h w = absurd cc
  tag_wrong (t ∷ rest) h w = wrong_tag t rest refl w

  pub length_wrong : (octets : List ℕ) (e : Asn1DerError) → eqb (length octets) 0 ≡ false → first (get_or octets 0 0) ≡ true → LengthError (drop 1 octets) e → PrefixError first error octets e
  length_wrong [] e h w f = absurd cc
  length_wrong (t ∷ rest) e h w f = wrong_length t rest e refl w f

  pub content_cut : (octets : List ℕ) (n taken : ℕ) → eqb (length octets) 0 ≡ false → first (get_or octets 0 0) ≡ true → TakesPrefix (len n) taken (drop 1 octets) → n < 2 ^ 64 → length (drop taken (drop 1 octets)) < n → PrefixError first error octets errors.TruncatedData
  content_cut [] n taken h w f lt short = absurd cc
  content_cut (t ∷ rest) n taken h w f lt short = cut_content t n (drop taken rest) (ap (λ (l : List ℕ). t ∷ l) f.prefix) w lt short

  pub content_wrong : (t taken : ℕ) (content octets : List ℕ) (e : Asn1DerError) → TakesPrefix (tlv t content) taken octets → first t ≡ true → length octets < 2 ^ 64 → error t content e → PrefixError first error octets e
  content_wrong t taken content octets e f w lt k = wrong_content t content (drop taken octets) e f.prefix w (content_fits t content (drop taken octets) octets f.prefix lt) k

  same_tag : (tag t : ℕ) → first tag ≡ true → eqb t tag ≡ true → first t ≡ true
  same_tag tag t h e = ap first (eqb-true t tag e) ∙ h

  -- what is wrong before a content is wrong with what begins so
  pub header_wrong : (tag : ℕ) (octets : List ℕ) (e : Asn1DerError) → first tag ≡ true → eqb (length octets) 0 ≡ false → get_or octets 0 0 ≡ tag → HeaderError tag octets e → PrefixError first error octets e
  header_wrong tag octets e h ne is (no_tag p) = no_tag p
  header_wrong tag octets e h ne is (wrong_tag t rest p w) = absurd (let k : t ≡ tag = sym (ap (λ (l : List ℕ). get_or l 0 0) p) ∙ is in let c : false ≡ true = sym w ∙ eq-eqb t tag k in cc)
  header_wrong tag octets e h ne is (wrong_length t rest d p w f) = wrong_length t rest d p (same_tag tag t h w) f
  header_wrong tag octets e h ne is (cut_content t n rest p w lt short) = cut_content t n rest p (same_tag tag t h w) lt short
  header_wrong tag octets e h ne is (wrong_content t content rest d p w lt k) = absurd k

pub or_memory : (F G : Asn1DerError → Type 0) (e : Asn1DerError) → (F e → G e) → OrMemory F e → OrMemory G e
or_memory F G e h (inl m) = inl m
or_memory F G e h (inr f) = inr (h f)

primitive_error : {A : Type 0} (is_content : A → Type 0) (content : A → List ℕ) (t : ℕ) (c : List ℕ) (e : Asn1DerError)
    → RejectsAll is_content content c e → (e ≡ errors.InvalidData) ⊎ (e ≡ errors.OutOfMemory)
    → OrMemory (PrimitiveError t is_content content t c) e
primitive_error is_content content t c errors.OutOfMemory r f = inl refl
primitive_error is_content content t c errors.InvalidData r f = inr (refl, λ v hv k. r v hv (tlv_same t t c (content v) k))
primitive_error is_content content t c errors.TruncatedData r (inl f) = absurd cc
primitive_error is_content content t c errors.TruncatedData r (inr f) = absurd cc
primitive_error is_content content t c errors.UnsupportedValue r (inl f) = absurd cc
primitive_error is_content content t c errors.UnsupportedValue r (inr f) = absurd cc
primitive_error is_content content t c (errors.Io io) r f = absurd r

-- a primitive type that rejects a content rejects the element
pub primitive_errors : {A : Type 0} (is_content : A → Type 0) (content : A → List ℕ) (t : ℕ) (c : List ℕ) (r : Result A Asn1DerError)
    → IfErr r (RejectsAll is_content content c) → IfErr r (λ e. (e ≡ errors.InvalidData) ⊎ (e ≡ errors.OutOfMemory))
    → IfErr r (OrMemory (PrimitiveError t is_content content t c))
primitive_errors is_content content t c (Ok v) rejected error = tt
primitive_errors is_content content t c (Err e) rejected error = primitive_error is_content content t c e rejected error
