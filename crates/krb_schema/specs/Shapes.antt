-- Which elements are of which row of a schema.
use Rattle.std.specs.Prelude.{◌≡◌, ◌==◌, ℕ, zero, suc, ◌+◌, ◌≤◌, true, false, Bool, nat_lt, if◌then◌else◌, List, [], ◌∷◌, Option, None, Some, length, take, drop}
use Rattle.std.specs.List.{slice_get}
use Rattle.std.specs.Option.{unwrap_or}
use Rattle.krb_der_x509.specs.RawValue.{is_raw_first}
use Rattle.krb_schema.specs.declared.shape.Name.{Name}
use Rattle.krb_schema.specs.declared.shape.Field.{Field}
use Rattle.krb_schema.specs.declared.shape.Case.{Case}
use Rattle.krb_schema.specs.declared.shape.Schema.{Schema}
use Rattle.krb_schema.specs.declared.shape.Shape.{Shape}
use Rattle.krb_schema.specs.declared.shape.Shape.TheVariants as shapes
use Rattle.krb_schema.specs.declared.shape.Leaf.TheVariants as leaves
use Rattle.krb_schema.specs.declared.item.Node.{Node}
use Rattle.krb_schema.specs.declared.item.Node.TheVariants as nodes
use Rattle.krb_schema.specs.Forests.{Forest, none, leaf, node, beside, enc}
use Rattle.krb_schema.specs.Leaves.{IsLeaf}

-- an element under this tag begins with this octet; under none, with any that an element in one octet of tag may begin with (X.690, 8.1.2.4)
abbrev pub is_first : Option ℕ → ℕ → Bool
is_first None t = is_raw_first t
is_first (Some tag) t = t == tag

-- the tag of elements of a shape; none for any element (X.690, 8.14)
abbrev pub tag_of : Shape → Option ℕ
tag_of (shapes.Leaf tag kind) = Some tag
tag_of (shapes.Tagged tag is) = Some tag
tag_of (shapes.Sequence tag start count) = Some tag
tag_of (shapes.SequenceOf tag is filled) = Some tag
tag_of (shapes.Holding start count) = Some 4
tag_of shapes.Any = None

-- the INTEGER of a number below 256 (X.690, 8.3)
abbrev pub number_octets : ℕ → List ℕ
number_octets n = if nat_lt n 128 then 2 ∷ 1 ∷ n ∷ [] else 2 ∷ 2 ∷ 0 ∷ n ∷ []

-- a case that may stand behind a field of this encoding
abbrev pub IsBehind : Option ℕ → List ℕ → Type 0
IsBehind None before = Unit {0}
IsBehind (Some n) before = before ≡ number_octets n

abbrev pub Applies : Case → List ℕ → Type 0
Applies c before = IsBehind c.behind before

-- what a case of an OCTET STRING of this name holds is called: as the case says, or else as the OCTET STRING
abbrev pub called : Case → Name → Name
called c name = unwrap_or c.name name

-- the octets begin as an element under this tag
abbrev pub Begins : Option ℕ → List ℕ → Type 0
Begins tag octets = (t : ℕ) × (rest : List ℕ) × (octets ≡ t ∷ rest) × (is_first tag t ≡ true)

-- the schema has so many from one on
abbrev pub IsRange : {A : Type 0} → ℕ → ℕ → List A → Type 0
IsRange {A} start count all = start + count ≤ length all

abbrev pub part : {A : Type 0} → ℕ → ℕ → List A → List A
part {A} start count all = take count (drop start all)

-- These fields in order, behind one of this encoding, where it is given which elements are right of which row, under which name and behind
-- which field: each is there, in its tag or by itself, or it may be absent and the octets do not begin as it does.
pub data AreFields (IsRight : ℕ → Name → List ℕ → Forest → Type 0) : List Field → List ℕ → Forest → Type 0 where
  no_fields : (before : List ℕ) → AreFields IsRight [] before none
  absent : (field : Field) (fields : List Field) (before : List ℕ) (rest : Forest)
      → field.optional ≡ true → (Begins field.tag (enc rest) → ⊥) → AreFields IsRight fields before rest → AreFields IsRight (field ∷ fields) before rest
  wrapped : (field : Field) (fields : List Field) (before : List ℕ) (t : ℕ) (inside rest : Forest)
      → field.wrapped ≡ true → is_first field.tag t ≡ true → IsRight field.is field.name before inside → AreFields IsRight fields (enc inside) rest
      → AreFields IsRight (field ∷ fields) before (node nodes.Wrap field.name t inside rest)
  bare : (field : Field) (fields : List Field) (before : List ℕ) (element rest : Forest)
      → field.wrapped ≡ false → Begins field.tag (enc element) → IsRight field.is field.name before element
      → AreFields IsRight fields (enc element) rest → AreFields IsRight (field ∷ fields) before (beside element rest)

-- any number of right elements
pub data AreElements (IsRight : Forest → Type 0) : Forest → Type 0 where
  no_elements : AreElements IsRight none
  one_more : (element others : Forest) → IsRight element → AreElements IsRight others → AreElements IsRight (beside element others)

-- no right element has this encoding
abbrev pub IsNone : (Forest → Type 0) → List ℕ → Type 0
IsNone IsRight octets = (f : Forest) → IsRight f → octets ≡ enc f → ⊥

-- An OCTET STRING of this content: it holds an element of the first of these cases that applies and fits, or none does and it is plain octets.
pub data IsHeld (IsRight : ℕ → Name → List ℕ → Forest → Type 0) (name : Name) (before content : List ℕ) : List Case → Forest → Type 0 where
  here : (case : Case) (cases : List Case) (inside : Forest) → Applies case before → IsRight case.is (called case name) [] inside → content ≡ enc inside
      → IsHeld IsRight name before content (case ∷ cases) (node nodes.Wrap name 4 inside none)
  later : (case : Case) (cases : List Case) (element : Forest) → (Applies case before → IsNone (IsRight case.is (called case name) []) content)
      → IsHeld IsRight name before content cases element → IsHeld IsRight name before content (case ∷ cases) element
  plain : IsHeld IsRight name before content [] (leaf leaves.Octets name 4 content none)

-- a list, which its standard may want to have an element
abbrev pub list_node : Bool → Node
list_node true = nodes.FilledList
list_node false = nodes.List

-- One element of this shape, which is called so, behind a field of this encoding.
abbrev pub IsShaped : (ℕ → Name → List ℕ → Forest → Type 0) → Schema → Shape → Name → List ℕ → Forest → Type 0
IsShaped IsRight schema (shapes.Leaf tag kind) name before f = (content : List ℕ) × IsLeaf kind content × (f ≡ leaf kind name tag content none)
IsShaped IsRight schema (shapes.Tagged tag is) name before f = (inside : Forest) × IsRight is name before inside × (f ≡ node nodes.Wrap name tag inside none)
IsShaped IsRight schema (shapes.Sequence tag start count) name before f = (inside : Forest) × IsRange start count schema.fields.now
    × AreFields IsRight (part start count schema.fields.now) [] inside × (f ≡ node nodes.Struct name tag inside none)
IsShaped IsRight schema (shapes.SequenceOf tag is filled) name before f =
    (inside : Forest) × AreElements (IsRight is name []) inside × (f ≡ node (list_node filled) name tag inside none)
IsShaped IsRight schema (shapes.Holding start count) name before f = (content : List ℕ) × IsRange start count schema.cases.now
    × IsHeld IsRight name before content (part start count schema.cases.now) f
IsShaped IsRight schema shapes.Any name before f = (t : ℕ) × (content : List ℕ) × (is_raw_first t ≡ true) × (f ≡ leaf leaves.Any name t content none)

-- One element of this row, where elements stand in one another so many levels deep at most.
abbrev pub IsElement : ℕ → Schema → ℕ → Name → List ℕ → Forest → Type 0
IsElement zero schema is name before f = ⊥
IsElement (suc levels) schema is name before f =
    (shape : Shape) × (slice_get schema.shapes.now is ≡ Some shape) × IsShaped (IsElement levels schema) schema shape name before f
