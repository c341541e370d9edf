-- Elements of parts make those of the whole.
use Rattle.std.proofs.Common.{◌≡◌, ℕ, zero, suc, ◌+◌, ◌-◌, ◌<◌, List, [], ◌∷◌, ◌++◌, length, take, Bool, true, false, refl, sym, ap, ◌∙◌, subst, append_assoc, arith, Result, Ok, Err}
use Rattle.std.specs.Prelude.{IfErr, Some}
use Rattle.std.specs.List.{slice_get}
use Rattle.std.proofs.lemmas.Bool.{eqb-true}
use Rattle.std.proofs.lemmas.List.{append-nil, length-append, take_at}
use Rattle.krb_der_core.specs.Tlv.{header, tlv}
use Rattle.krb_der_core.specs.declared.error.Asn1DerError.TheVariants as errors
use Rattle.krb_schema.specs.Faults.{IsFieldsFault, IsWholeFault, behind_bare, behind_wrapped, in_wrapped, left_over, some_over}
use Rattle.krb_schema.specs.Forests.{Forest, none, leaf, node, beside, enc}
use Rattle.krb_schema.specs.Leaves.{IsLeaf}
use Rattle.krb_schema.specs.Shapes.{Applies, AreElements, AreFields, Begins, IsElement, IsHeld, IsNone, IsRange, IsShaped, called, is_first, list_node, part, tag_of, absent, bare, here, later, no_elements, plain, wrapped}
use Rattle.krb_schema.specs.declared.item.Fault.{Fault}
use Rattle.krb_schema.specs.declared.item.Fault.TheVariants as faults
use Rattle.krb_schema.specs.declared.item.Node.{Node}
use Rattle.krb_schema.specs.declared.item.Node.TheVariants as nodes
use Rattle.krb_schema.specs.declared.shape.Case.{Case}
use Rattle.krb_schema.specs.declared.shape.Field.{Field}
use Rattle.krb_schema.specs.declared.shape.Leaf.{Leaf}
use Rattle.krb_schema.specs.declared.shape.Leaf.TheVariants as leaves
use Rattle.krb_schema.specs.declared.shape.Name.{Name}
use Rattle.krb_schema.specs.declared.shape.Schema.{Schema}
use Rattle.krb_schema.specs.declared.shape.Shape.{Shape}
use Rattle.krb_schema.specs.declared.shape.Shape.TheVariants as shapes
use Rattle.krb_schema.proofs.Beginnings.{begins_before}
use Rattle.krb_schema.proofs.Walking.{enc_beside, one_behind, tlv_size}
use Rattle.krb_encoding_check.specs.Encodings.{Encodes, EncodesFront}

-- ---- faults

pub on_fault : {A : Type 0} (r : Result A Fault) (P Q : Fault → Type 0) → ((d : Fault) → P d → Q d) → IfErr r P → IfErr r Q
on_fault (Ok v) P Q to_Q h = h
on_fault (Err e) P Q to_Q h = to_Q e h

pub ended_fault : {A : Type 0} (R : ℕ → Name → List ℕ → Forest → Type 0) (F : ℕ → Name → List ℕ → ℕ → List ℕ → Fault → Type 0) (before : List ℕ) (at : ℕ) (octets : List ℕ)
    (r : Result A Fault) → IfErr r (λ fault. octets ≡ [] → ⊥) → IfErr r (λ fault. fault ≡ faults.Refused errors.InvalidData at) → IfErr r (IsFieldsFault R F [] before at octets)
ended_fault R F before at octets (Ok v) some is = tt
ended_fault R F before at octets (Err e) some is = subst (IsFieldsFault R F [] before at octets) (sym is) (some_over before at octets some)

module _ (R : Forest → Type 0) (F : ℕ → List ℕ → Fault → Type 0) (at : ℕ) (octets rest : List ℕ) (w : EncodesFront R octets rest) where
  taken_size : length octets - length rest ≡ length (enc w.0)
  taken_size = omega (arith, ap (λ (l : List ℕ). length l) w.2, length-append (enc w.0) rest)

  pub whole_fault : {A : Type 0} (r : Result A Fault) → IfErr r (λ fault. rest ≡ [] → ⊥)
      → IfErr r (λ fault. fault ≡ faults.Refused errors.InvalidData (at + (length octets - length rest))) → IfErr r (IsWholeFault R F at octets)
  whole_fault (Ok v) some is = tt
  whole_fault (Err e) some is =
      subst (IsWholeFault R F at octets) (ap (λ (n : ℕ). faults.Refused errors.InvalidData (at + n)) (sym taken_size) ∙ sym is) (left_over w.0 rest w.1 w.2 some)

  pub whole_encoded : rest ≡ [] → Encodes R octets
  whole_encoded none_left = (w.0, w.1, w.2 ∙ ap (λ (l : List ℕ). enc w.0 ++ l) none_left ∙ append-nil (enc w.0))

-- ---- an element of a shape

same_tag : (tag t : ℕ) → is_first (Some tag) t ≡ true → t ≡ tag
same_tag tag t e = eqb-true t tag e

module _ (R : ℕ → Name → List ℕ → Forest → Type 0) (schema : Schema) (shape : Shape) (name : Name) (before : List ℕ) (t : ℕ) (content : List ℕ) where
  of_shape : (target : Shape) → shape ≡ target → Encodes (IsShaped R schema target name before) (tlv t content) → Encodes (IsShaped R schema shape name before) (tlv t content)
  of_shape target is w = subst (λ (s : Shape). Encodes (IsShaped R schema s name before) (tlv t content)) (sym is) w

  tagged_so : (target : Shape) → shape ≡ target → is_first (tag_of shape) t ≡ true → is_first (tag_of target) t ≡ true
  tagged_so target is first = subst (λ (s : Shape). is_first (tag_of s) t ≡ true) is first

  node_octets : (kind : Node) (tag : ℕ) (inside : Forest) → t ≡ tag → content ≡ enc inside → tlv t content ≡ enc (node kind name tag inside none)
  node_octets kind tag inside is same = ap (λ (n : ℕ). tlv n content) is ∙ ap (λ (c : List ℕ). tlv tag c) same ∙ sym (append-nil (tlv tag (enc inside)))

  pub leaf_at : (tag : ℕ) (kind : Leaf) → shape ≡ shapes.Leaf tag kind → is_first (tag_of shape) t ≡ true → IsLeaf kind content → Encodes (IsShaped R schema shape name before) (tlv t content)
  leaf_at tag kind is first right =
      let k = same_tag tag t (tagged_so (shapes.Leaf tag kind) is first) in
      of_shape (shapes.Leaf tag kind) is
      (leaf kind name tag content none, (content, right, refl), ap (λ (n : ℕ). tlv n content) k ∙ sym (append-nil (tlv tag content)))

  pub any_at : shape ≡ shapes.Any → is_first (tag_of shape) t ≡ true → Encodes (IsShaped R schema shape name before) (tlv t content)
  any_at is first =
      of_shape shapes.Any is
      (leaf leaves.Any name t content none, (t, content, tagged_so shapes.Any is first, refl), sym (append-nil (tlv t content)))

  pub tagged_at : (tag inner : ℕ) → shape ≡ shapes.Tagged tag inner → is_first (tag_of shape) t ≡ true → Encodes (R inner name before) content
      → Encodes (IsShaped R schema shape name before) (tlv t content)
  tagged_at tag inner is first w =
      of_shape (shapes.Tagged tag inner) is
      (node nodes.Wrap name tag w.0 none, (w.0, w.1, refl), node_octets nodes.Wrap tag w.0 (same_tag tag t (tagged_so (shapes.Tagged tag inner) is first)) w.2)

  pub sequence_at : (tag start count : ℕ) (fields : List Field) → shape ≡ shapes.Sequence tag start count → is_first (tag_of shape) t ≡ true
      → IsRange start count schema.fields.now → fields ≡ part start count schema.fields.now → Encodes (AreFields R fields []) content
      → Encodes (IsShaped R schema shape name before) (tlv t content)
  sequence_at tag start count fields is first range all w =
      of_shape (shapes.Sequence tag start count) is (
        node nodes.Struct name tag w.0 none,
        (w.0, range, subst (λ (fs : List Field). AreFields R fs [] w.0) all w.1, refl),
        node_octets nodes.Struct tag w.0 (same_tag tag t (tagged_so (shapes.Sequence tag start count) is first)) w.2,
      )

  pub row_at : (tag inner : ℕ) (filled : Bool) → shape ≡ shapes.SequenceOf tag inner filled → is_first (tag_of shape) t ≡ true
      → Encodes (AreElements (R inner name [])) content → Encodes (IsShaped R schema shape name before) (tlv t content)
  row_at tag inner filled is first w =
      of_shape (shapes.SequenceOf tag inner filled) is (
        node (list_node filled) name tag w.0 none,
        (w.0, w.1, refl),
        node_octets (list_node filled) tag w.0 (same_tag tag t (tagged_so (shapes.SequenceOf tag inner filled) is first)) w.2,
      )

-- an element of a row, and what stands behind it
pub element_front : (levels : ℕ) (schema : Schema) (is : ℕ) (shape : Shape) (name : Name) (before : List ℕ) (t : ℕ) (octets content rest : List ℕ)
    → (levels ≡ 0 → ⊥) → slice_get schema.shapes.now is ≡ Some shape → octets ≡ tlv t content ++ rest
    → Encodes (IsShaped (IsElement (levels - 1) schema) schema shape name before) (tlv t content) → EncodesFront (IsElement levels schema is name before) octets rest
element_front zero schema is shape name before t octets content rest some row e w = absurd (some refl)
element_front (suc levels) schema is shape name before t octets content rest some row e w =
    let v : Encodes (IsShaped (IsElement levels schema) schema shape name before) (tlv t content) =
    subst (λ (n : ℕ). Encodes (IsShaped (IsElement n schema) schema shape name before) (tlv t content)) (omega arith) w in
    (v.0, (shape, row, v.1), e ∙ ap (λ (l : List ℕ). l ++ rest) v.2)

-- ---- fields

module _ (R : ℕ → Name → List ℕ → Forest → Type 0) (field : Field) (fields : List Field) (before : List ℕ) where
  pub field_absent : (octets : List ℕ) → field.optional ≡ true → (Begins field.tag octets → ⊥) → Encodes (AreFields R fields before) octets
      → Encodes (AreFields R (field ∷ fields) before) octets
  field_absent octets may other w = (w.0, absent field fields before w.0 may (subst (λ (o : List ℕ). Begins field.tag o → ⊥) w.2 other) w.1, w.2)

  pub field_wrapped : (t : ℕ) (content rest : List ℕ) → field.wrapped ≡ true → is_first field.tag t ≡ true → Encodes (R field.is field.name before) content
      → Encodes (AreFields R fields content) rest → Encodes (AreFields R (field ∷ fields) before) (tlv t content ++ rest)
  field_wrapped t content rest is_wrapped first w v = (
    node nodes.Wrap field.name t w.0 v.0,
    wrapped field fields before t w.0 v.0 is_wrapped first w.1 (subst (λ (b : List ℕ). AreFields R fields b v.0) w.2 v.1),
    ap (λ (l : List ℕ). tlv t content ++ l) v.2 ∙ ap (λ (l : List ℕ). tlv t l ++ enc v.0) w.2,
  )

  -- octets before the rest are those of the element at the start
  module _ (octets rest element : List ℕ) (taken : ℕ) (is_taken : taken ≡ length octets - length rest) (is_element : element ≡ take taken octets)
      (w : EncodesFront (R field.is field.name before) octets rest) where
    count : taken ≡ length (enc w.0)
    count = omega (arith, is_taken, ap (λ (l : List ℕ). length l) w.2, length-append (enc w.0) rest)

    same : element ≡ enc w.0
    same = is_element ∙ ap (λ (o : List ℕ). take taken o) w.2 ∙ take_at (enc w.0) rest taken (sym count)

    pub field_bare : field.wrapped ≡ false → Begins field.tag octets → length rest < length octets → Encodes (AreFields R fields element) rest
        → Encodes (AreFields R (field ∷ fields) before) octets
    field_bare is_bare begins some v = (
      beside w.0 v.0,
      bare field fields before w.0 v.0 is_bare (begins_before field.tag octets (enc w.0) rest w.2 begins (omega (arith, some, count, is_taken))) w.1
          (subst (λ (b : List ℕ). AreFields R fields b v.0) same v.1),
      w.2 ∙ ap (λ (l : List ℕ). enc w.0 ++ l) v.2 ∙ sym (enc_beside w.0 v.0),
    )

    pub bare_fault : (F : ℕ → Name → List ℕ → ℕ → List ℕ → Fault → Type 0) (at : ℕ) (fault : Fault) → field.wrapped ≡ false → Begins field.tag octets
        → IsFieldsFault R F fields element (at + taken) rest fault → IsFieldsFault R F (field ∷ fields) before at octets fault
    bare_fault F at fault is_bare begins f =
        behind_bare field fields before at octets rest w.0 fault is_bare begins w.2 w.1
        (subst (λ (n : ℕ). IsFieldsFault R F fields (enc w.0) (at + n) rest fault) count
        (subst (λ (b : List ℕ). IsFieldsFault R F fields b (at + taken) rest fault) same f))

  module _ (F : ℕ → Name → List ℕ → ℕ → List ℕ → Fault → Type 0) (at t size : ℕ) (content rest : List ℕ) (fault : Fault) (is_wrapped : field.wrapped ≡ true)
      (first : is_first field.tag t ≡ true) (headed : size ≡ length (header t (length content))) where
    pub inside_fault : IsWholeFault (R field.is field.name before) (F field.is field.name before) (at + size) content fault
        → IsFieldsFault R F (field ∷ fields) before at (tlv t content ++ rest) fault
    inside_fault f =
        in_wrapped field fields before at t (tlv t content ++ rest) content rest fault is_wrapped first refl
        (subst (λ (n : ℕ). IsWholeFault (R field.is field.name before) (F field.is field.name before) (at + n) content fault) headed f)

    pub wrapped_fault : Encodes (R field.is field.name before) content → IsFieldsFault R F fields content (at + size + length content) rest fault
        → IsFieldsFault R F (field ∷ fields) before at (tlv t content ++ rest) fault
    wrapped_fault w f =
        let behind : at + size + length content ≡ at + length (tlv t content) = omega (arith, headed, tlv_size t content) in
        behind_wrapped field fields before at t (tlv t content ++ rest) rest w.0 fault is_wrapped first (ap (λ (c : List ℕ). tlv t c ++ rest) w.2) w.1
        (subst (λ (c : List ℕ). IsFieldsFault R F fields c (at + length (tlv t c)) rest fault) w.2
        (subst (λ (n : ℕ). IsFieldsFault R F fields content n rest fault) behind f))

-- ---- what an OCTET STRING holds

module _ (R : ℕ → Name → List ℕ → Forest → Type 0) (name : Name) (before content : List ℕ) where
  pub held_plain : Encodes (IsHeld R name before content []) (tlv 4 content)
  held_plain = (leaf leaves.Octets name 4 content none, plain, sym (append-nil (tlv 4 content)))

  pub held_later : (case : Case) (cases : List Case) → (Applies case before → IsNone (R case.is (called case name) []) content)
      → Encodes (IsHeld R name before content cases) (tlv 4 content) → Encodes (IsHeld R name before content (case ∷ cases)) (tlv 4 content)
  held_later case cases lacks w = (w.0, later case cases w.0 lacks w.1, w.2)

  pub held_here : (case : Case) (cases : List Case) → Applies case before → Encodes (R case.is (called case name) []) content
      → Encodes (IsHeld R name before content (case ∷ cases)) (tlv 4 content)
  held_here case cases applies w = (
    node nodes.Wrap name 4 w.0 none,
    here case cases w.0 applies w.1 w.2,
    ap (λ (c : List ℕ). tlv 4 c) w.2 ∙ sym (append-nil (tlv 4 (enc w.0))),
  )

-- ---- rows

-- the octets before the rest are right elements
pub record RowSoFar (R : Forest → Type 0) (at place : ℕ) (octets rest : List ℕ) : Type 0 where
  pub done : Forest
  pub right : AreElements R done
  pub parts : octets ≡ enc done ++ rest
  pub passed : place ≡ at + length (enc done)

pub row_begun : (R : Forest → Type 0) (at : ℕ) (octets : List ℕ) → RowSoFar R at at octets octets
row_begun R at octets = record { done = none; right = no_elements; parts = refl; passed = omega arith }

pub row_more : (R : Forest → Type 0) (at place : ℕ) (octets rest behind : List ℕ) → RowSoFar R at place octets rest → EncodesFront R rest behind
    → RowSoFar R at (place + (length rest - length behind)) octets behind
row_more R at place octets rest behind s w =
    let joined : enc (beside s.done w.0) ≡ enc s.done ++ enc w.0 = enc_beside s.done w.0 in
    record {
      done = beside s.done w.0;
      right = one_behind R s.done w.0 s.right w.1;
      parts = s.parts ∙ ap (λ (l : List ℕ). enc s.done ++ l) w.2 ∙ sym (append_assoc (enc s.done) (enc w.0) behind) ∙ ap (λ (l : List ℕ). l ++ behind) (sym joined);
      passed = omega (arith, s.passed, ap (λ (l : List ℕ). length l) joined, length-append (enc s.done) (enc w.0), ap (λ (l : List ℕ). length l) w.2, length-append (enc w.0) behind);
    }

pub row_ended : (R : Forest → Type 0) (at place : ℕ) (octets rest : List ℕ) → length rest ≡ 0 → RowSoFar R at place octets rest → Encodes (AreElements R) octets
row_ended R at place octets [] none_left s = (s.done, s.right, s.parts ∙ append-nil (enc s.done))
row_ended R at place octets (x ∷ rest) none_left s = absurd (omega (arith, none_left))
