-- Rows of the table and readers: the first fault of an element is its first error.
use Rattle.std.proofs.Common.{◌≡◌, inl, inr, ℕ, suc, ◌+◌, ◌≤◌, ◌<◌, ◌^◌, ◌==◌, ◌&&◌, nat_le, refl, sym, ap, subst, ◌∙◌, arith, Bool, true, Option, Some, List, [], ◌∷◌, ◌++◌, length}
use Rattle.std.specs.Prelude.{MatchOption}
use Rattle.std.specs.List.{slice_get, flat_map, AllByRecursion}
use Rattle.std.proofs.lemmas.List.{append-nil, length-append}
use Rattle.std.proofs.lemmas.Grind.{common_steps}
use Rattle.krb_der_core.specs.declared.error.Asn1DerError.{Asn1DerError}
use Rattle.krb_der_core.specs.declared.error.Asn1DerError.TheVariants as errors
use Rattle.krb_der.specs.Whole.{NoDevice}
use Rattle.krb_der_core.specs.Encoding.{IsOctets}
use Rattle.krb_der_core.specs.ErrorLaws.{content_fits}
use Rattle.krb_der_core.specs.Errors.{LengthError, cut_length, long_length, no_length, other_form}
use Rattle.krb_der_core.specs.Errors.{PrefixError, RowError, TaggedError, at_start, cut_content, in_content, no_tag, wrong_content, wrong_length, wrong_tag}
use Rattle.krb_der_core.specs.Errors.{left_over as over}
use Rattle.krb_der_core.specs.Tlv.{tlv}
use Rattle.krb_schema.specs.declared.item.Fault.{Fault}
use Rattle.krb_schema.specs.declared.item.Fault.TheVariants as faults
use Rattle.krb_schema.specs.declared.shape.Leaf.{Leaf}
use Rattle.krb_schema.specs.declared.shape.Name.{Name}
use Rattle.krb_schema.specs.declared.shape.Schema.{Schema}
use Rattle.krb_schema.specs.declared.shape.Shape.{Shape}
use Rattle.krb_schema.specs.declared.shape.Shape.TheVariants as shape
use Rattle.krb_schema.specs.Faults.{IsContentFault, IsFault, IsLeafFault, IsRowFault, IsShapeFault, IsWholeFault, refused_at}
use Rattle.krb_schema.specs.Faults.{in_element, left_over}
use Rattle.krb_schema.specs.Forests.{Forest, enc}
use Rattle.krb_schema.specs.Named.{IsKerberos}
use Rattle.krb_schema.specs.Shapes.{AreElements, IsElement, IsShaped, is_first, no_elements, one_more, tag_of}
use Rattle.krb_schema.specs.Types.{shapes}
use Rattle.krb_show_row_laws.proofs.CodecRows.{Tie, enc_beside}
use Rattle.krb_show_row_laws.proofs.Codecs.{Codec}
use Rattle.krb_show_row_laws.proofs.ForestLaws.{octets_left, octets_right, octets_within}
use Rattle.krb_show_row_laws.proofs.Readers.{Reader, whole_error}
use Rattle.krb_show_row_laws.proofs.Readers as reader
use Rattle.krb_show_row_laws.proofs.RowFields.{OfRow, shape_at, shape_of, tagged_out}

-- ---- octets

-- these are octets, and there are fewer than 2^64
abbrev pub IsInput : List ℕ → Type 0
IsInput o = IsOctets o × (length o < 2 ^ 64)

pub input_front : (a b o : List ℕ) → o ≡ a ++ b → IsInput o → IsInput a
input_front a b o e i = (octets_left a b (subst IsOctets e i.0), omega (arith, i.1, ap (λ (l : List ℕ). length l) e, length-append a b))

pub input_rest : (a b o : List ℕ) → o ≡ a ++ b → IsInput o → IsInput b
input_rest a b o e i = (octets_right a b (subst IsOctets e i.0), omega (arith, i.1, ap (λ (l : List ℕ). length l) e, length-append a b))

pub input_within : (t : ℕ) (content rest o : List ℕ) → o ≡ tlv t content ++ rest → IsInput o → IsInput content
input_within t content rest o e i =
    (octets_within t content (octets_left (tlv t content) rest (subst IsOctets e i.0)), content_fits t content rest o e i.1)

pub some_left : (rest : List ℕ) → (rest ≡ [] → ⊥) → 0 < length rest
some_left [] some = absurd (some refl)
some_left (x ∷ rest) some = omega arith

pub same : (m n : ℕ) → (m == n) ≡ true → m ≡ n
same m n e = grind (arith, common_steps)

-- ---- errors

-- the fault is an error, which is so, and of no device
pub record IsErrorAs (Is : Asn1DerError → Type 0) (fault : Fault) : Type 0 where
  pub why : Asn1DerError
  pub at : ℕ
  pub fault_is : fault ≡ faults.Refused why at
  pub is_so : Is why
  pub no_device : NoDevice why

pub as_other : {Is Other : Asn1DerError → Type 0} (fault : Fault) → ((e : Asn1DerError) → Is e → Other e) → IsErrorAs Is fault → IsErrorAs Other fault
as_other fault f h = record { why = h.why; at = h.at; fault_is = h.fault_is; is_so = f h.why h.is_so; no_device = h.no_device }

pub refused_as : {Is Other : Asn1DerError → Type 0} (at : ℕ) (fault : Fault) → ((e : Asn1DerError) → Is e → Other e × NoDevice e) → refused_at at Is fault
    → IsErrorAs Other fault
refused_as at fault f h = let w = f h.0 h.1 in record { why = h.0; at = at; fault_is = h.2; is_so = w.0; no_device = w.1 }

length_device : (octets : List ℕ) (e : Asn1DerError) → LengthError octets e → NoDevice e
length_device octets e (no_length p) = tt
length_device octets e (other_form first rest p q) = tt
length_device octets e (cut_length first rest p q r s) = tt
length_device octets e (long_length first rest p q r s t) = tt

-- that of a tag or a length is that of an element, whatever the errors of contents
pub header_as : (first initial : ℕ → Bool) (error : ℕ → List ℕ → Asn1DerError → Type 0) → ((t : ℕ) → first t ≡ initial t) → (o : List ℕ) (e : Asn1DerError)
    → PrefixError first (λ t content d. ⊥) o e → PrefixError initial error o e × NoDevice e
header_as first initial error f o e (no_tag p) = (no_tag p, tt)
header_as first initial error f o e (wrong_tag t rest p w) = (wrong_tag t rest p (sym (f t) ∙ w), tt)
header_as first initial error f o e (wrong_length t rest d p w g) = (wrong_length t rest d p (sym (f t) ∙ w) g, length_device rest d g)
header_as first initial error f o e (cut_content t n rest p w less short) = (cut_content t n rest p (sym (f t) ∙ w) less short, tt)
header_as first initial error f o e (wrong_content t content rest d p w less g) = absurd g

-- the octets are those of a value
pub record IsRead (r : Reader) (o : List ℕ) : Type 0 where
  pub value : r.value
  pub valid : r.valid value
  pub are : o ≡ r.enc value

module _ (schema : Schema) (kerberos : IsKerberos schema) where
  -- an element of the row is a value, and its fault is the first error
  pub record FaultTie (levels is : ℕ) (r : Reader) : Type 0 where
    pub from : (name : Name) (before o : List ℕ) → IsOctets o → OfRow levels schema is name before o → IsRead r o
    pub refused : (name : Name) (before : List ℕ) (at : ℕ) (o : List ℕ) (fault : Fault) → IsInput o → IsFault levels schema is name before at o fault
        → IsErrorAs (PrefixError r.first r.error o) fault

  -- ---- elements

  pub element_refused : (levels is : ℕ) (s : Shape) (r : Reader) → slice_get shapes is ≡ Some s → ((t : ℕ) → is_first (tag_of s) t ≡ r.first t)
      → (name : Name) (before : List ℕ) → ((t at : ℕ) (content : List ℕ) (fault : Fault) → is_first (tag_of s) t ≡ true → IsInput content
      → IsContentFault (IsElement levels schema) (IsFault levels schema) schema s name before at content fault → IsErrorAs (r.error t content) fault)
      → (at : ℕ) (o : List ℕ) (fault : Fault) → IsInput o → IsFault (suc levels) schema is name before at o fault
      → IsErrorAs (PrefixError r.first r.error o) fault
  element_refused levels is s r is_row firsts name before within at o fault input h =
      by_part (subst (λ (m : Option Shape). MatchOption m (fault ≡ faults.NoRow)
      (λ shape. IsShapeFault (IsElement levels schema) (IsFault levels schema) schema shape name before at o fault)) (shape_at schema is s kerberos is_row) h)
    where
      by_part : IsShapeFault (IsElement levels schema) (IsFault levels schema) schema s name before at o fault
          → IsErrorAs (PrefixError r.first r.error o) fault
      by_part (inl f) = refused_as at fault (λ e g. header_as (is_first (tag_of s)) r.first r.error firsts o e g) f
      by_part (inr (t, content, rest, first, whole, f)) =
          let fits = input_within t content rest o whole input in
          as_other fault (λ e g. wrong_content t content rest e whole (sym (firsts t) ∙ first) fits.1 g) (within t _ content fault first fits f)

  -- octets that are to be one element
  pub whole_refused : (levels is : ℕ) (r : Reader) → FaultTie levels is r → (name : Name) (before : List ℕ) (at : ℕ) (o : List ℕ) (fault : Fault) → IsInput o
      → IsWholeFault (IsElement levels schema is name before) (IsFault levels schema is name before) at o fault → IsErrorAs (whole_error r o) fault
  whole_refused levels is r t name before at o fault input (in_element d f) = as_other d (λ e g. at_start e g) (t.refused name before at o d input f)
  whole_refused levels is r t name before at o fault input (left_over element rest right whole some) =
      let v = t.from name before (enc element) (input_front (enc element) rest o whole input).0
      (record { forest = element; element = right; octets_are = refl }) in
      record {
        why = errors.InvalidData;
        at = _;
        fault_is = refl;
        no_device = tt;
        is_so = over v.value rest v.valid (whole ∙ ap (λ (a : List ℕ). a ++ rest) v.are) tt (some_left rest some);
      }

  -- ---- elements without elements

  pub leaf_refused : (levels is tag : ℕ) (kind : Leaf) (r : Reader) (c : Codec) → slice_get shapes is ≡ Some (shape.Leaf tag kind)
      → Tie schema kerberos (suc levels) is c
      → ((o : List ℕ) (x : c.value) → c.valid x → o ≡ c.enc x → IsRead r o) → ((t : ℕ) → (t == tag) ≡ r.first t)
      → ((at : ℕ) (content : List ℕ) (fault : Fault) → IsLeafFault kind at content fault → IsErrorAs (r.error tag content) fault) → FaultTie (suc levels) is r
  leaf_refused levels is tag kind r c is_row tie read firsts within = record {
    from = λ name before o small h. (let x = tie.from name before o small h in read o x.code x.valid x.are);
    refused = λ name before at o fault input h.
        element_refused levels is (shape.Leaf tag kind) r is_row firsts name before
        (λ t place content d first fits f. subst (λ (n : ℕ). IsErrorAs (r.error n content) d) (sym (same t tag first)) (within place content d f)) at o fault input h;
  }

  -- ---- elements in a tag

  -- what is in the tag: whether it is there, in the right tag, is told already
  pub explicit_within : (levels is tag : ℕ) (r : Reader) → FaultTie levels is r
      → (name : Name) (before : List ℕ) (t at : ℕ) (content : List ℕ) (fault : Fault)
      → t ≡ tag → IsInput content → IsWholeFault (IsElement levels schema is name before) (IsFault levels schema is name before) at content fault
      → IsErrorAs (TaggedError tag (whole_error r) t content) fault
  explicit_within levels is tag r t name before u at content fault e fits f =
      as_other fault (λ d g. in_content d e g) (whole_refused levels is r t name before at content fault fits f)

  tagged_from : (levels is tag inside : ℕ) (r other : Reader) → slice_get shapes is ≡ Some (shape.Tagged tag inside) → FaultTie levels inside r
      → ((o : List ℕ) (x : r.value) → r.valid x → o ≡ tlv tag (r.enc x) → IsRead other o)
      → (name : Name) (before o : List ℕ) → IsOctets o → OfRow (suc levels) schema is name before o → IsRead other o
  tagged_from levels is tag inside r other is_row t read name before o small h =
      let w = tagged_out schema kerberos levels is tag inside name before o is_row h in
      let x = t.from name before w.0 (octets_within tag w.0 (subst IsOctets w.2 small)) w.1 in
      read o x.value x.valid (w.2 ∙ ap (tlv tag) x.are)

  -- under an application tag
  pub application_refused : (levels is n inside : ℕ) (r : Reader) → slice_get shapes is ≡ Some (shape.Tagged (96 + n) inside) → n ≤ 30 → nat_le n 30 ≡ true
      → FaultTie levels inside r → FaultTie (suc levels) is (reader.application n r)
  application_refused levels is n inside r is_row small_number small t = record {
    from = tagged_from levels is (96 + n) inside r (reader.application n r) is_row t (λ o x v e. record { value = x; valid = (v, small_number); are = e });
    refused = λ name before at o fault input h.
        element_refused levels is (shape.Tagged (96 + n) inside) (reader.application n r) is_row
        (λ u. sym (ap (λ (b : Bool). b && (u == 96 + n)) small)) name before
        (λ u place content d first fits f. as_other d (λ e g. inr (small_number, g))
        (explicit_within levels inside (96 + n) r t name before u place content d (same u (96 + n) first) fits f)) at o fault input h;
  }

  -- in an explicit tag, by itself
  pub explicit_refused : (levels is tag inside : ℕ) (r : Reader) → slice_get shapes is ≡ Some (shape.Tagged tag inside) → FaultTie levels inside r
      → FaultTie (suc levels) is (reader.explicit tag r)
  explicit_refused levels is tag inside r is_row t = record {
    from = tagged_from levels is tag inside r (reader.explicit tag r) is_row t (λ o x v e. record { value = x; valid = v; are = e });
    refused = λ name before at o fault input h.
        element_refused levels is (shape.Tagged tag inside) (reader.explicit tag r) is_row (λ u. refl) name before
        (λ u place content d first fits f. explicit_within levels inside tag r t name before u place content d (same u tag first) fits f) at o fault input h;
  }

  -- ---- a SEQUENCE OF

  record AreRead (r : Reader) (o : List ℕ) : Type 0 where
    values : List r.value
    valid : AllByRecursion r.valid values
    are : o ≡ flat_map r.enc values

  elements_read : (levels is : ℕ) (r : Reader) → FaultTie levels is r → (name : Name) (f : Forest) → AreElements (IsElement levels schema is name []) f
      → (o : List ℕ) → IsOctets o → o ≡ enc f → AreRead r o
  elements_read levels is r t name f no_elements o small e = record { values = []; valid = tt; are = e }
  elements_read levels is r t name f (one_more a b right others) o small e =
      let whole = e ∙ enc_beside a b in
      let octets = subst IsOctets whole small in
      let x = t.from name [] (enc a) (octets_left (enc a) (enc b) octets) (record { forest = a; element = right; octets_are = refl }) in
      let xs = elements_read levels is r t name b others (enc b) (octets_right (enc a) (enc b) octets) refl in
      record {
        values = x.value ∷ xs.values;
        valid = (x.valid, xs.valid);
        are = whole ∙ ap (λ (o : List ℕ). o ++ enc b) x.are ∙ ap (λ (o : List ℕ). r.enc x.value ++ o) xs.are;
      }

  row_refused : (levels is : ℕ) (r : Reader) → FaultTie levels is r → (name : Name) (at : ℕ) (o : List ℕ) (fault : Fault) → IsInput o
      → IsRowFault (IsElement levels schema is name []) (IsFault levels schema is name []) at o fault
      → IsErrorAs (RowError r.valid r.enc (PrefixError r.first r.error) o) fault
  row_refused levels is r t name at o fault input f =
      let xs = elements_read levels is r t name f.done f.right (enc f.done) (input_front (enc f.done) f.rest o f.parts input).0 refl in
      as_other fault (λ e g. record {
        items = xs.values;
        rest = f.rest;
        values = xs.valid;
        parts = f.parts ∙ ap (λ (a : List ℕ). a ++ f.rest) xs.are;
        some_left = f.some_left;
        first_left = g;
      }) (t.refused name [] (at + length (enc f.done)) f.rest fault (input_rest (enc f.done) f.rest o f.parts input) f.first_left)

  pub list_refused : (levels is inside : ℕ) (filled : Bool) (r : Reader) → slice_get shapes is ≡ Some (shape.SequenceOf 48 inside filled)
      → FaultTie levels inside r
      → FaultTie (suc levels) is (reader.sequence_of r)
  list_refused levels is inside filled r is_row t = record {
    from = λ name before o small h.
        (let p = shape_of schema is h.element.0 (shape.SequenceOf 48 inside filled) kerberos is_row h.element.1 in
        let w = subst (λ (s : Shape). IsShaped (IsElement levels schema) schema s name before h.forest) p h.element.2 in
        let e = h.octets_are ∙ ap enc w.2 ∙ append-nil (tlv 48 (enc w.0)) in
        let xs = elements_read levels inside r t name w.0 w.1 (enc w.0) (octets_within 48 (enc w.0) (subst IsOctets e small)) refl in
        record { value = xs.values; valid = xs.valid; are = e ∙ ap (tlv 48) xs.are });
    refused = λ name before at o fault input h.
        element_refused levels is (shape.SequenceOf 48 inside filled) (reader.sequence_of r) is_row (λ u. refl) name before
        (λ u place content d first fits f. as_other d (λ e g. in_content e (same u 48 first) g) (row_refused levels inside r t name place content d fits f)) at o fault input h;
  }
