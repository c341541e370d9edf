-- The first error of octets that are no elements of a row, from the left: of an element its tag, its length, its content; and where it is.
use Rattle.std.specs.Prelude.{◌≡◌, ◌⊎◌, ◌<◌, ◌^◌, ℕ, zero, suc, ◌+◌, ℤ, pos, true, false, Bool, List, [], ◌∷◌, ◌++◌, Option, MatchOption, length}
use Rattle.std.specs.List.{slice_get}
use Rattle.std.specs.Str.{IsAscii}
use Rattle.krb_der_core.specs.declared.error.Asn1DerError.{Asn1DerError}
use Rattle.krb_der_core.specs.declared.error.Asn1DerError.TheVariants as errors
use Rattle.krb_der_core.specs.Errors.{PrefixError, PrimitiveError, TaggedError}
use Rattle.krb_der_core.specs.Tlv.{header, tlv}
use Rattle.krb_der_core.specs.Integer.{shortest}
use Rattle.krb_der_core.specs.Primitive.{bool_content}
use Rattle.krb_der_core.specs.BitString.{IsBits, bits_content}
use Rattle.krb_der_core.specs.GeneralizedTime.{IsRealTime, time_content}
use Rattle.krb_der_x509.specs.ObjectIdentifierErrors.{ArcsError}
use Rattle.krb_schema.specs.declared.item.Fault.{Fault}
use Rattle.krb_schema.specs.declared.item.Fault.TheVariants as faults
use Rattle.krb_schema.specs.declared.shape.Name.{Name}
use Rattle.krb_schema.specs.declared.shape.Field.{Field}
use Rattle.krb_schema.specs.declared.shape.Leaf.{Leaf}
use Rattle.krb_schema.specs.declared.shape.Leaf.TheVariants as leaves
use Rattle.krb_schema.specs.declared.shape.Schema.{Schema}
use Rattle.krb_schema.specs.declared.shape.Shape.{Shape}
use Rattle.krb_schema.specs.declared.shape.Shape.TheVariants as shapes
use Rattle.krb_schema.specs.Forests.{Forest, enc}
use Rattle.krb_schema.specs.Shapes.{AreElements, Begins, IsElement, IsRange, is_first, part, tag_of}

-- an allocation failed, or this is the fault
abbrev pub OrMemory : (Fault → Type 0) → Fault → Type 0
OrMemory IsFault fault = (fault ≡ faults.OutOfMemory) ⊎ IsFault fault

-- an error that is so, here
abbrev pub refused_at : ℕ → (Asn1DerError → Type 0) → Fault → Type 0
refused_at at IsError fault = (why : Asn1DerError) × IsError why × (fault ≡ faults.Refused why at)

-- that of the tag or the length of an element, which is to have this tag (X.690, 8.1.2 and 8.1.3)
abbrev pub IsHeaderFault : Option ℕ → ℕ → List ℕ → Fault → Type 0
IsHeaderFault tag at octets = refused_at at (PrefixError (is_first tag) (λ t content e. ⊥) octets)

-- that of the content of a leaf
abbrev pub IsLeafFault : Leaf → ℕ → List ℕ → Fault → Type 0
IsLeafFault leaves.Integer at content = refused_at at (PrimitiveError {A = ℤ} 2 (λ v. Unit {0}) shortest 2 content)
IsLeafFault (leaves.Number n) at content = refused_at at (PrimitiveError {A = ℤ} 2 (λ v. Unit {0}) shortest 2 content)
IsLeafFault leaves.Microseconds at content = refused_at at (PrimitiveError {A = ℤ} 2 (λ v. Unit {0}) shortest 2 content)
IsLeafFault leaves.Unsigned at content = refused_at at (PrimitiveError {A = ℕ} 2 (λ v. v < 2 ^ 32) (λ v. shortest (pos v)) 2 content)
IsLeafFault leaves.Flags at content = refused_at at (PrimitiveError 3 IsBits bits_content 3 content)
IsLeafFault leaves.Bits at content = refused_at at (PrimitiveError 3 IsBits bits_content 3 content)
IsLeafFault leaves.Text at content = refused_at at (PrimitiveError 27 IsAscii (λ v. v) 27 content)
IsLeafFault leaves.Component at content = refused_at at (PrimitiveError 27 IsAscii (λ v. v) 27 content)
IsLeafFault leaves.Time at content = refused_at at (PrimitiveError 24 IsRealTime time_content 24 content)
IsLeafFault leaves.Octets at content = λ fault. ⊥
IsLeafFault leaves.Secret at content = λ fault. ⊥
IsLeafFault leaves.Cipher at content = λ fault. ⊥
IsLeafFault leaves.Truth at content = refused_at at (PrimitiveError {A = Bool} 1 (λ v. Unit {0}) bool_content 1 content)
IsLeafFault leaves.Identifier at content = refused_at at (TaggedError 6 ArcsError 6 content)
IsLeafFault leaves.Any at content = λ fault. ⊥

-- an element under this tag stands at the start of the octets
abbrev pub HasElement : Option ℕ → List ℕ → Type 0
HasElement tag octets = (t : ℕ) × (content : List ℕ) × (rest : List ℕ) × (is_first tag t ≡ true) × (octets ≡ tlv t content ++ rest)

-- That of octets which are to be one right element, all of them: that of the element, or octets are left over behind it.
pub data IsWholeFault (IsRight : Forest → Type 0) (IsFault : ℕ → List ℕ → Fault → Type 0) (at : ℕ) (octets : List ℕ) : Fault → Type 0 where
  in_element : (fault : Fault) → IsFault at octets fault → IsWholeFault IsRight IsFault at octets fault
  left_over : (element : Forest) (rest : List ℕ) → IsRight element → octets ≡ enc element ++ rest → (rest ≡ [] → ⊥)
      → IsWholeFault IsRight IsFault at octets (faults.Refused errors.InvalidData (at + length (enc element)))

-- That of octets which are to be right elements in a row: it is that of the first which is none.
pub record IsRowFault (IsRight : Forest → Type 0) (IsFault : ℕ → List ℕ → Fault → Type 0) (at : ℕ) (octets : List ℕ) (fault : Fault) : Type 0 where
  pub done : Forest
  pub rest : List ℕ
  pub right : AreElements IsRight done
  pub parts : octets ≡ enc done ++ rest
  pub some_left : 0 < length rest
  pub first_left : IsFault (at + length (enc done)) rest fault

-- That of octets which are to be these fields behind one of this encoding: octets are left over; it is behind a field that is absent; in a
-- field's tag; within the tag; behind a field in its tag; in a field that stands by itself; or behind such a field.
pub data IsFieldsFault (IsRight : ℕ → Name → List ℕ → Forest → Type 0) (IsFault : ℕ → Name → List ℕ → ℕ → List ℕ → Fault → Type 0)
    : List Field → List ℕ → ℕ → List ℕ → Fault → Type 0 where
  some_over : (before : List ℕ) (at : ℕ) (octets : List ℕ) → (octets ≡ [] → ⊥)
      → IsFieldsFault IsRight IsFault [] before at octets (faults.Refused errors.InvalidData at)
  behind_absent : (field : Field) (fields : List Field) (before : List ℕ) (at : ℕ) (octets : List ℕ) (fault : Fault)
      → field.optional ≡ true → (Begins field.tag octets → ⊥) → IsFieldsFault IsRight IsFault fields before at octets fault
      → IsFieldsFault IsRight IsFault (field ∷ fields) before at octets fault
  in_tag : (field : Field) (fields : List Field) (before : List ℕ) (at : ℕ) (octets : List ℕ) (fault : Fault)
      → (field.optional ≡ true → Begins field.tag octets) → IsHeaderFault field.tag at octets fault
      → IsFieldsFault IsRight IsFault (field ∷ fields) before at octets fault
  in_wrapped : (field : Field) (fields : List Field) (before : List ℕ) (at t : ℕ) (octets content rest : List ℕ) (fault : Fault)
      → field.wrapped ≡ true → is_first field.tag t ≡ true → octets ≡ tlv t content ++ rest
      → IsWholeFault (IsRight field.is field.name before) (IsFault field.is field.name before) (at + length (header t (length content))) content fault
      → IsFieldsFault IsRight IsFault (field ∷ fields) before at octets fault
  behind_wrapped : (field : Field) (fields : List Field) (before : List ℕ) (at t : ℕ) (octets rest : List ℕ) (inside : Forest) (fault : Fault)
      → field.wrapped ≡ true → is_first field.tag t ≡ true → octets ≡ tlv t (enc inside) ++ rest → IsRight field.is field.name before inside
      → IsFieldsFault IsRight IsFault fields (enc inside) (at + length (tlv t (enc inside))) rest fault
      → IsFieldsFault IsRight IsFault (field ∷ fields) before at octets fault
  in_bare : (field : Field) (fields : List Field) (before : List ℕ) (at : ℕ) (octets : List ℕ) (fault : Fault)
      → field.wrapped ≡ false → HasElement field.tag octets → IsFault field.is field.name before at octets fault
      → IsFieldsFault IsRight IsFault (field ∷ fields) before at octets fault
  behind_bare : (field : Field) (fields : List Field) (before : List ℕ) (at : ℕ) (octets rest : List ℕ) (element : Forest) (fault : Fault)
      → field.wrapped ≡ false → Begins field.tag octets → octets ≡ enc element ++ rest → IsRight field.is field.name before element
      → IsFieldsFault IsRight IsFault fields (enc element) (at + length (enc element)) rest fault
      → IsFieldsFault IsRight IsFault (field ∷ fields) before at octets fault

-- the schema lacks so many from one on
abbrev pub IsLacking : {A : Type 0} → ℕ → ℕ → List A → Fault → Type 0
IsLacking {A} start count all fault = (IsRange start count all → ⊥) × (fault ≡ faults.NoRow)

-- that of the content of an element of this shape, which begins after so many octets
abbrev pub IsContentFault : (ℕ → Name → List ℕ → Forest → Type 0) → (ℕ → Name → List ℕ → ℕ → List ℕ → Fault → Type 0)
    → Schema → Shape → Name → List ℕ → ℕ → List ℕ → Fault → Type 0
IsContentFault IsRight IsFault schema (shapes.Leaf tag kind) name before at content fault = IsLeafFault kind at content fault
IsContentFault IsRight IsFault schema (shapes.Tagged tag is) name before at content fault =
    IsWholeFault (IsRight is name before) (IsFault is name before) at content fault
IsContentFault IsRight IsFault schema (shapes.Sequence tag start count) name before at content fault =
    IsLacking start count schema.fields.now fault
    ⊎ (IsRange start count schema.fields.now × IsFieldsFault IsRight IsFault (part start count schema.fields.now) [] at content fault)
IsContentFault IsRight IsFault schema (shapes.SequenceOf tag is filled) name before at content fault =
    IsRowFault (IsRight is name []) (IsFault is name []) at content fault
IsContentFault IsRight IsFault schema (shapes.Holding start count) name before at content fault = IsLacking start count schema.cases.now fault
IsContentFault IsRight IsFault schema shapes.Any name before at content fault = ⊥

-- that of an element of this shape
abbrev pub IsShapeFault : (ℕ → Name → List ℕ → Forest → Type 0) → (ℕ → Name → List ℕ → ℕ → List ℕ → Fault → Type 0)
    → Schema → Shape → Name → List ℕ → ℕ → List ℕ → Fault → Type 0
IsShapeFault IsRight IsFault schema shape name before at octets fault = IsHeaderFault (tag_of shape) at octets fault
    ⊎ ((t : ℕ) × (content : List ℕ) × (rest : List ℕ) × (is_first (tag_of shape) t ≡ true) × (octets ≡ tlv t content ++ rest)
    × IsContentFault IsRight IsFault schema shape name before (at + length (header t (length content))) content fault)

-- That of octets which are to begin with an element of this row, so many levels deep at most, after so many octets: the element may stand at no
-- level; the schema lacks the row; or it is that of an element of the row's shape.
abbrev pub IsFault : ℕ → Schema → ℕ → Name → List ℕ → ℕ → List ℕ → Fault → Type 0
IsFault zero schema is name before at octets fault = fault ≡ faults.TooDeep at
IsFault (suc levels) schema is name before at octets fault = MatchOption (slice_get schema.shapes.now is) (fault ≡ faults.NoRow)
    (λ shape. IsShapeFault (IsElement levels schema) (IsFault levels schema) schema shape name before at octets fault)
