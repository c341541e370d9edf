-- The first error of the fields of a sequence, from the left.
use Rattle.std.specs.Prelude.{◌≡◌, ◌↔◌, ℕ, ◌<◌, ◌≤◌, ◌⊎◌, Bool, true, false, List, [], ◌∷◌, ◌++◌}
use Rattle.krb_der_core.specs.declared.error.Asn1DerError.{Asn1DerError}
use Rattle.krb_der_core.specs.declared.error.Asn1DerError.TheVariants as errors
use Rattle.krb_der_core.specs.Errors.{PrefixError, TaggedError, WholeError}
use Rattle.krb_der.specs.declared.sequence.Fields.{Ghosts as FieldsOf}

-- there are octets, and the first is one of these
abbrev pub IsBegun : (ℕ → Bool) → List ℕ → Type 0
IsBegun first [] = ⊥
IsBegun first (t ∷ rest) = first t ≡ true

-- the octets are none, or the first is none of these
abbrev pub IsAbsent : (ℕ → Bool) → List ℕ → Type 0
IsAbsent first [] = Unit {0}
IsAbsent first (t ∷ rest) = first t ≡ false

-- The first error of a field that may be absent: it is there where the octets begin as it does, and then the error is that of
-- its element.
abbrev pub OptionalError : (ℕ → Bool) → (ℕ → List ℕ → Asn1DerError → Type 0) → List ℕ → Asn1DerError → Type 0
OptionalError first error octets e = IsBegun first octets × PrefixError first error octets e

-- The first error of fields after fields: that of the left ones, or these stand at the start and it is that of the right ones
-- in the octets after them.
pub data PairError {L : Type 0} (are_values : L → Type 0) (octets_of : L → List ℕ) (ends : L → List ℕ → Type 0) (left right : List ℕ → Asn1DerError → Type 0) (octets : List ℕ) : Asn1DerError → Type 0 where
  in_left : (e : Asn1DerError) → left octets e → PairError are_values octets_of ends left right octets e
  in_right : (v : L) (rest : List ℕ) (e : Asn1DerError) → are_values v → octets ≡ octets_of v ++ rest → ends v rest → right rest e → PairError are_values octets_of ends left right octets e

-- The first error of fields and a last one after them.
abbrev pub LastError : {L : Type 0} → FieldsOf L → (List ℕ → Asn1DerError → Type 0) → List ℕ → Asn1DerError → Type 0
LastError l = PairError l.are_values l.octets l.ends l.error

-- The first error of a SEQUENCE (X.690, 8.9): its tag, then its fields in order, then what is left over.
abbrev pub sequence_error : {F : Type 0} → FieldsOf F → ℕ → List ℕ → Asn1DerError → Type 0
sequence_error f = TaggedError 48 (WholeError f.are_values f.octets f.ends f.error)

-- Two relations give the same first error: for each tag and content.
abbrev pub SameError : (ℕ → List ℕ → Asn1DerError → Type 0) → (ℕ → List ℕ → Asn1DerError → Type 0) → Type 0
SameError error other = (t : ℕ) (content : List ℕ) (e : Asn1DerError) → error t content e ↔ other t content e

-- The first error of an element is that of the SEQUENCE of these fields.
abbrev pub HasErrorsOf : {F : Type 0} → (ℕ → List ℕ → Asn1DerError → Type 0) → FieldsOf F → Type 0
HasErrorsOf error fields = SameError error (sequence_error fields)

-- The first error of an element under an application tag of this number: a number past 30 has no value.
abbrev pub NumberError : ℕ → (ℕ → List ℕ → Asn1DerError → Type 0) → ℕ → List ℕ → Asn1DerError → Type 0
NumberError n error t content e = ((30 < n) × (e ≡ errors.InvalidData)) ⊎ ((n ≤ 30) × error t content e)
