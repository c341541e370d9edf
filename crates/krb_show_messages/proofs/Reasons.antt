-- The first fault of octets that are no element of a row is never a reader's.
use Rattle.std.proofs.Common.{◌≡◌, ℕ, zero, suc, ◌+◌, sym, ap, subst, List, [], length, inl, inr, Option, Some, None}
use Rattle.std.specs.Prelude.{Bool, MatchOption}
use Rattle.std.specs.List.{slice_get}
use Rattle.krb_der_core.specs.Errors.{LengthError, PrefixError, TaggedError, no_length, other_form, cut_length, long_length, no_tag, wrong_tag, wrong_length, cut_content, wrong_content, other_tag, in_content}
use Rattle.krb_der_core.specs.declared.error.Asn1DerError.{Asn1DerError}
use Rattle.krb_der_core.specs.declared.error.Asn1DerError.TheVariants as errors
use Rattle.krb_der_core.specs.Tlv.{header, tlv}
use Rattle.krb_der.specs.Whole.{NoDevice}
use Rattle.krb_der_x509.specs.ObjectIdentifierErrors.{ArcsError, SubIdentifierError}
use Rattle.krb_schema.specs.declared.item.Fault.{Fault}
use Rattle.krb_schema.specs.declared.item.Fault.TheVariants as faults
use Rattle.krb_schema.specs.declared.shape.Field.{Field}
use Rattle.krb_schema.specs.declared.shape.Leaf.{Leaf}
use Rattle.krb_schema.specs.declared.shape.Leaf.TheVariants as leaves
use Rattle.krb_schema.specs.declared.shape.Name.{Name}
use Rattle.krb_schema.specs.declared.shape.Schema.{Schema}
use Rattle.krb_schema.specs.declared.shape.Shape.{Shape}
use Rattle.krb_schema.specs.declared.shape.Shape.TheVariants as shapes
use Rattle.krb_schema.specs.Faults.{IsContentFault, IsFault, IsFieldsFault, IsHeaderFault, IsLeafFault, IsRowFault, IsShapeFault, IsWholeFault, refused_at, in_element, left_over, some_over, behind_absent, in_tag, in_wrapped, behind_wrapped, in_bare, behind_bare}
use Rattle.krb_schema.specs.Forests.{Forest, enc}
use Rattle.krb_schema.specs.Shapes.{IsElement, is_first, part, tag_of}
use Rattle.krb_show.specs.RowWalk.{IsFirstFault}
use Rattle.krb_show_messages.specs.Shown.{reason_of}

-- its reason is none of a reader
abbrev IsOctetsFault : Fault → Type 0
IsOctetsFault fault = NoDevice (reason_of fault)

of_length : (octets : List ℕ) (e : Asn1DerError) → LengthError octets e → NoDevice e
of_length octets e (no_length p) = tt
of_length octets e (other_form first rest p q) = tt
of_length octets e (cut_length first rest p q r s) = tt
of_length octets e (long_length first rest p q r s t) = tt

of_header : (first : ℕ → Bool) (octets : List ℕ) (e : Asn1DerError) → PrefixError first (λ t content e. ⊥) octets e → NoDevice e
of_header first octets e (no_tag p) = tt
of_header first octets e (wrong_tag t rest p q) = tt
of_header first octets e (wrong_length t rest d p q h) = of_length rest d h
of_header first octets e (cut_content t n rest p q r s) = tt
of_header first octets e (wrong_content t content rest d p q r h) = absurd h

refused_so : (at : ℕ) (E : Asn1DerError → Type 0) → ((e : Asn1DerError) → E e → NoDevice e) → (fault : Fault) → refused_at at E fault → IsOctetsFault fault
refused_so at E each fault (why, h, p) = subst IsOctetsFault (sym p) (each why h)

invalid : (e : Asn1DerError) → e ≡ errors.InvalidData → NoDevice e
invalid e p = subst NoDevice (sym p) tt

of_sub : (octets : List ℕ) (e : Asn1DerError) → SubIdentifierError octets e → NoDevice e
of_sub octets e (n, inl h) = subst NoDevice (sym h.0) tt
of_sub octets e (n, inr h) = invalid e h.0

of_arcs : (content : List ℕ) (e : Asn1DerError) → ArcsError content e → NoDevice e
of_arcs content e (inl h) = invalid e h.0
of_arcs content e (inr r) = of_sub r.rest e r.first_left

of_identifier : (content : List ℕ) (e : Asn1DerError) → TaggedError 6 ArcsError 6 content e → NoDevice e
of_identifier content e (other_tag n) = tt
of_identifier content e (in_content d same h) = of_arcs content d h

of_tag : (tag : Option ℕ) (at : ℕ) (octets : List ℕ) (fault : Fault) → IsHeaderFault tag at octets fault → IsOctetsFault fault
of_tag tag at octets fault h = refused_so at _ (of_header (is_first tag) octets) fault h

of_leaf : (kind : Leaf) (at : ℕ) (content : List ℕ) (fault : Fault) → IsLeafFault kind at content fault → IsOctetsFault fault
of_leaf leaves.Integer at content fault h = refused_so at _ (λ e x. invalid e x.0) fault h
of_leaf (leaves.Number n) at content fault h = refused_so at _ (λ e x. invalid e x.0) fault h
of_leaf leaves.Microseconds at content fault h = refused_so at _ (λ e x. invalid e x.0) fault h
of_leaf leaves.Unsigned at content fault h = refused_so at _ (λ e x. invalid e x.0) fault h
of_leaf leaves.Flags at content fault h = refused_so at _ (λ e x. invalid e x.0) fault h
of_leaf leaves.Bits at content fault h = refused_so at _ (λ e x. invalid e x.0) fault h
of_leaf leaves.Text at content fault h = refused_so at _ (λ e x. invalid e x.0) fault h
of_leaf leaves.Component at content fault h = refused_so at _ (λ e x. invalid e x.0) fault h
of_leaf leaves.Time at content fault h = refused_so at _ (λ e x. invalid e x.0) fault h
of_leaf leaves.Octets at content fault h = absurd h
of_leaf leaves.Secret at content fault h = absurd h
of_leaf leaves.Cipher at content fault h = absurd h
of_leaf leaves.Truth at content fault h = refused_so at _ (λ e x. invalid e x.0) fault h
of_leaf leaves.Identifier at content fault h = refused_so at _ (of_identifier content) fault h
of_leaf leaves.Any at content fault h = absurd h

-- ---- of wholes, fields and contents, where that is so of elements

module _ (R : ℕ → Name → List ℕ → Forest → Type 0) (F : ℕ → Name → List ℕ → ℕ → List ℕ → Fault → Type 0)
    (each : (is : ℕ) (name : Name) (before : List ℕ) (at : ℕ) (octets : List ℕ) (fault : Fault) → F is name before at octets fault → IsOctetsFault fault) where
  of_whole : (is : ℕ) (name : Name) (before : List ℕ) (at : ℕ) (octets : List ℕ) (fault : Fault)
      → IsWholeFault (R is name before) (F is name before) at octets fault → IsOctetsFault fault
  of_whole is name before at octets fault (in_element x f) = each is name before at octets fault f
  of_whole is name before at octets fault (left_over element rest right whole some) = tt

  of_fields : (fields : List Field) (before : List ℕ) (at : ℕ) (octets : List ℕ) (fault : Fault) → IsFieldsFault R F fields before at octets fault
      → IsOctetsFault fault
  of_fields fields before at octets fault (some_over b p o some) = tt
  of_fields fields before at octets fault (behind_absent fd fs b p o x may other f) = of_fields fs before at octets fault f
  of_fields fields before at octets fault (in_tag fd fs b p o x there h) = of_tag fd.tag at octets fault h
  of_fields fields before at octets fault (in_wrapped fd fs b p t o content rest x w first whole f) =
      of_whole fd.is fd.name before (at + length (header t (length content))) content fault f
  of_fields fields before at octets fault (behind_wrapped fd fs b p t o rest inside x w first whole right f) =
      of_fields fs (enc inside) (at + length (tlv t (enc inside))) rest fault f
  of_fields fields before at octets fault (in_bare fd fs b p o x bare has f) = each fd.is fd.name before at octets fault f
  of_fields fields before at octets fault (behind_bare fd fs b p o rest element x bare begins whole right f) =
      of_fields fs (enc element) (at + length (enc element)) rest fault f

  of_content : (schema : Schema) (shape : Shape) (name : Name) (before : List ℕ) (at : ℕ) (content : List ℕ) (fault : Fault)
      → IsContentFault R F schema shape name before at content fault → IsOctetsFault fault
  of_content schema (shapes.Leaf tag kind) name before at content fault h = of_leaf kind at content fault h
  of_content schema (shapes.Tagged tag is) name before at content fault h = of_whole is name before at content fault h
  of_content schema (shapes.Sequence tag start count) name before at content fault (inl h) = subst IsOctetsFault (sym h.1) tt
  of_content schema (shapes.Sequence tag start count) name before at content fault (inr h) =
      of_fields (part start count schema.fields.now) [] at content fault h.1
  of_content schema (shapes.SequenceOf tag is filled) name before at content fault h =
      each is name [] (at + length (enc h.done)) h.rest fault h.first_left
  of_content schema (shapes.Holding start count) name before at content fault h = subst IsOctetsFault (sym h.1) tt
  of_content schema shapes.Any name before at content fault h = absurd h

  of_shape : (schema : Schema) (shape : Shape) (name : Name) (before : List ℕ) (at : ℕ) (octets : List ℕ) (fault : Fault)
      → IsShapeFault R F schema shape name before at octets fault → IsOctetsFault fault
  of_shape schema shape name before at octets fault (inl h) = of_tag (tag_of shape) at octets fault h
  of_shape schema shape name before at octets fault (inr (t, content, rest, first, whole, h)) =
      of_content schema shape name before (at + length (header t (length content))) content fault h

of_element : (levels : ℕ) (schema : Schema) (is : ℕ) (name : Name) (before : List ℕ) (at : ℕ) (octets : List ℕ) (fault : Fault)
    → IsFault levels schema is name before at octets fault → IsOctetsFault fault
of_element zero schema is name before at octets fault h = subst IsOctetsFault (sym h) tt
of_element (suc levels) schema is name before at octets fault h =
    by_shape (slice_get schema.shapes.now is)
    (λ shape. of_shape (IsElement levels schema) (IsFault levels schema) (of_element levels schema) schema shape name before at octets fault) h
  where
    by_shape : (found : Option Shape) → ((shape : Shape) → IsShapeFault (IsElement levels schema) (IsFault levels schema) schema shape name before at octets fault → IsOctetsFault fault)
        → MatchOption found (fault ≡ faults.NoRow)
        (λ shape. IsShapeFault (IsElement levels schema) (IsFault levels schema) schema shape name before at octets fault) → IsOctetsFault fault
    by_shape None each f = subst IsOctetsFault (sym f) tt
    by_shape (Some shape) each f = each shape f

pub no_device : (text : List ℕ) (is : ℕ) (octets : List ℕ) (fault : Fault) → IsFirstFault text is octets fault → NoDevice (reason_of fault)
no_device text is octets fault f =
    of_whole (IsElement 64 f.schema) (IsFault 64 f.schema) (of_element 64 f.schema) is f.name [] 0 octets fault f.first
