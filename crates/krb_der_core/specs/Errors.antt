-- The first error of octets that are no encoding, from the left: of an element its tag, its length, its content. Octets that
-- are missing come before the content. A reader returns the first error.
use Rattle.std.specs.Prelude.{◌≡◌, ◌==◌, ◌⊎◌, ℕ, ◌-◌, ◌<◌, ◌≤◌, ◌^◌, Bool, true, false, List, [], ◌∷◌, ◌++◌, length}
use Rattle.std.specs.List.{flat_map, AllByRecursion}
use Rattle.krb_der_core.specs.declared.error.Asn1DerError.{Asn1DerError}
use Rattle.krb_der_core.specs.declared.error.Asn1DerError.TheVariants as errors
use Rattle.krb_der_core.specs.Tlv.{len, tlv}
use Rattle.krb_der_core.specs.Reading.{NoPrefix, Lengths}

-- The first error of length octets (X.690, 8.1.3 and 10.1): there are none; the first is that of the indefinite form or of
-- more than eight octets; fewer follow than it says; or what follows is not the shortest form of a number.
pub data LengthError (octets : List ℕ) : Asn1DerError → Type 0 where
  no_length : octets ≡ [] → LengthError octets errors.TruncatedData
  other_form : (first : ℕ) (rest : List ℕ) → octets ≡ first ∷ rest → (first ≡ 128) ⊎ (136 < first) → LengthError octets errors.UnsupportedValue
  cut_length : (first : ℕ) (rest : List ℕ) → octets ≡ first ∷ rest → 128 < first → first ≤ 136 → length rest < first - 128 → LengthError octets errors.TruncatedData
  long_length : (first : ℕ) (rest : List ℕ) → octets ≡ first ∷ rest → 128 < first → first ≤ 136 → first - 128 ≤ length rest → NoPrefix Lengths octets → LengthError octets errors.InvalidData

-- The first error of an element at the start of the octets (X.690, 8.1.1), whose tag is to be among the first octets. That of
-- its content depends on its tag and its content.
pub data PrefixError (first : ℕ → Bool) (error : ℕ → List ℕ → Asn1DerError → Type 0) (octets : List ℕ) : Asn1DerError → Type 0 where
  no_tag : octets ≡ [] → PrefixError first error octets errors.TruncatedData
  wrong_tag : (t : ℕ) (rest : List ℕ) → octets ≡ t ∷ rest → first t ≡ false → PrefixError first error octets errors.InvalidData
  wrong_length : (t : ℕ) (rest : List ℕ) (e : Asn1DerError) → octets ≡ t ∷ rest → first t ≡ true → LengthError rest e → PrefixError first error octets e
  cut_content : (t n : ℕ) (rest : List ℕ) → octets ≡ t ∷ (len n ++ rest) → first t ≡ true → n < 2 ^ 64 → length rest < n → PrefixError first error octets errors.TruncatedData
  wrong_content : (t : ℕ) (content rest : List ℕ) (e : Asn1DerError) → octets ≡ tlv t content ++ rest → first t ≡ true → length content < 2 ^ 64 → error t content e → PrefixError first error octets e

-- The first error of the header of an element with this tag, or that the content is cut short.
abbrev pub HeaderError : ℕ → List ℕ → Asn1DerError → Type 0
HeaderError tag = PrefixError (λ t. t == tag) (λ t content e. ⊥)

-- The error of an element of this tag and content where it is to have the expected tag and a value's content: it is invalid.
abbrev pub PrimitiveError : {A : Type 0} → ℕ → (A → Type 0) → (A → List ℕ) → ℕ → List ℕ → Asn1DerError → Type 0
PrimitiveError {A} wanted is_value content_of t content e = (e ≡ errors.InvalidData) × ((v : A) → is_value v → tlv t content ≡ tlv wanted (content_of v) → ⊥)

-- The first error of an element that is to have the expected tag: it has another, or its content has this error.
pub data TaggedError (wanted : ℕ) (error : List ℕ → Asn1DerError → Type 0) (t : ℕ) (content : List ℕ) : Asn1DerError → Type 0 where
  other_tag : (t ≡ wanted → ⊥) → TaggedError wanted error t content errors.InvalidData
  in_content : (e : Asn1DerError) → t ≡ wanted → error content e → TaggedError wanted error t content e

-- The first error of octets that are to be one value's, all of them: that of the value, or octets are left over after the
-- octets of a value, which ends there.
pub data WholeError {A : Type 0} (is_value : A → Type 0) (octets_of : A → List ℕ) (ends : A → List ℕ → Type 0) (error : List ℕ → Asn1DerError → Type 0) (octets : List ℕ) : Asn1DerError → Type 0 where
  at_start : (e : Asn1DerError) → error octets e → WholeError is_value octets_of ends error octets e
  left_over : (v : A) (rest : List ℕ) → is_value v → octets ≡ octets_of v ++ rest → ends v rest → 0 < length rest → WholeError is_value octets_of ends error octets errors.InvalidData

-- The first error of values in a row (X.690, 8.10): some are at the start, and it is the error of the octets after them.
pub record RowError {A : Type 0} (is_value : A → Type 0) (enc : A → List ℕ) (error : List ℕ → Asn1DerError → Type 0) (octets : List ℕ) (e : Asn1DerError) : Type 0 where
  pub items : List A
  pub rest : List ℕ
  pub values : AllByRecursion is_value items
  pub parts : octets ≡ flat_map enc items ++ rest
  pub some_left : 0 < length rest
  pub first_left : error rest e

-- The first error of octets that are to be the encoding of one value, all of them.
abbrev pub ValueError : {A : Type 0} → (A → Type 0) → (A → List ℕ) → (ℕ → Bool) → (ℕ → List ℕ → Asn1DerError → Type 0) → List ℕ → Asn1DerError → Type 0
ValueError is_value enc first error = WholeError is_value enc (λ v rest. Unit {0}) (PrefixError first error)

-- an allocation failed, or this error is the first
abbrev pub OrMemory : (Asn1DerError → Type 0) → Asn1DerError → Type 0
OrMemory error e = (e ≡ errors.OutOfMemory) ⊎ error e

-- ---- what errors keep, where a content has fewer than 2^64 octets

-- The errors of elements: one with an error is the encoding of no value, and has no other first error.
pub record ErrorLaws {A : Type 0} (is_value : A → Type 0) (enc : A → List ℕ) (error : ℕ → List ℕ → Asn1DerError → Type 0) : Type 0 where
  pub no_value : (t : ℕ) (content : List ℕ) (e : Asn1DerError) → length content < 2 ^ 64 → error t content e → (v : A) → is_value v → tlv t content ≡ enc v → ⊥
  pub one_error : (t : ℕ) (content : List ℕ) (e d : Asn1DerError) → length content < 2 ^ 64 → error t content e → error t content d → e ≡ d

-- The errors of contents, likewise.
pub record ContentLaws {A : Type 0} (is_value : A → Type 0) (content_of : A → List ℕ) (error : List ℕ → Asn1DerError → Type 0) : Type 0 where
  pub no_value : (content : List ℕ) (e : Asn1DerError) → length content < 2 ^ 64 → error content e → (v : A) → is_value v → content ≡ content_of v → ⊥
  pub one_error : (content : List ℕ) (e d : Asn1DerError) → length content < 2 ^ 64 → error content e → error content d → e ≡ d

-- The errors of what is at the start of octets: with one, no value ends there, and there is no other first error;
-- and what follows such a value is determined.
pub record PrefixLaws {A : Type 0} (is_value : A → Type 0) (octets_of : A → List ℕ) (ends : A → List ℕ → Type 0) (error : List ℕ → Asn1DerError → Type 0) : Type 0 where
  pub no_value : (octets : List ℕ) (e : Asn1DerError) → length octets < 2 ^ 64 → error octets e → (v : A) (rest : List ℕ) → is_value v → octets ≡ octets_of v ++ rest → ends v rest → ⊥
  pub one_error : (octets : List ℕ) (e d : Asn1DerError) → length octets < 2 ^ 64 → error octets e → error octets d → e ≡ d
  pub one_rest : (v w : A) (x y : List ℕ) → is_value v → is_value w → ends v x → ends w y → octets_of v ++ x ≡ octets_of w ++ y → x ≡ y
