-- A test of a table of types: whether the lines of each row's elements are told apart.
use Rattle.std.specs.Prelude.{ℕ, zero, suc, nat_eq, nat_lt, if◌then◌else◌, Bool, true, false, ◌&&◌, ◌||◌, List, [], ◌∷◌, ◌++◌, Option, None, Some}
use Rattle.std.specs.List.{slice_get}
use Rattle.krb_registry.specs.declared.kind.Kind.{Kind}
use Rattle.krb_schema.specs.declared.item.Form.TheVariants as form
use Rattle.krb_schema.specs.declared.shape.Leaf.{Leaf}
use Rattle.krb_schema.specs.declared.shape.Leaf.TheVariants as leaves
use Rattle.krb_schema.specs.declared.shape.Role.{Role}
use Rattle.krb_schema.specs.declared.shape.Role.TheVariants as roles
use Rattle.krb_schema.specs.declared.shape.Shape.{Shape}
use Rattle.krb_schema.specs.declared.shape.Shape.TheVariants as shape
use Rattle.krb_schema.specs.Shapes.{part}
use Rattle.krb_show.specs.Items.{is_component}
use Rattle.krb_show_row_laws.specs.Telling.{is_name, other_than}
use Rattle.krb_show_row_laws.specs.Firsts.{First, Kinds, apart_firsts, are_apart, names_of, of_leaf, of_list, of_struct, openings}

-- a field: its first octet, whether this is an explicit tag, whether it is optional, its name, its registry, its role and its row
abbrev pub FieldRow : Type 0
FieldRow = Option ℕ × Bool × Bool × List ℕ × Option Kind × Role × ℕ

-- what a case holds is called, where this is of its own: its name, its registry and its role
abbrev pub OwnName : Type 0
OwnName = Option (List ℕ × Option Kind × Role)

-- a case: the INTEGER that it stands behind, the name of its own, and its row
abbrev pub CaseRow : Type 0
CaseRow = Option ℕ × OwnName × ℕ

abbrev pub own_text : OwnName → List ℕ → List ℕ
own_text None name = name
own_text (Some own) name = own.0

abbrev pub own_role : OwnName → Role → Role
own_role None role = role
own_role (Some own) role = own.2

abbrev pub is_own : OwnName → Bool
is_own None = false
is_own (Some own) = true

abbrev pub own_is_name : OwnName → Bool
own_is_name None = true
own_is_name (Some own) = is_name own.0

-- elements of this shape are components of names
abbrev pub is_component_shape : Option Shape → Bool
is_component_shape None = false
is_component_shape (Some (shape.Leaf tag kind)) = is_component (form.Leaf kind)
is_component_shape (Some other) = false

abbrev pub list_firsts : Bool → List ℕ → List First
list_firsts true name = openings (of_list ∷ of_leaf ∷ []) name
list_firsts false name = openings (of_list ∷ []) name

-- no INTEGER is both of these
abbrev pub never_both : Option ℕ → Option ℕ → Bool
never_both None other = false
never_both (Some m) None = false
never_both (Some m) (Some n) = other_than (nat_eq m n)

-- an explicit tag has its octet
abbrev pub is_tagged : Bool → Option ℕ → Bool
is_tagged true None = false
is_tagged true (Some tag) = true
is_tagged false tag = true

-- elements of this shape are whole numbers, of one line
abbrev pub is_number : Option Shape → Bool
is_number (Some (shape.Leaf tag leaves.Integer)) = true
is_number (Some (shape.Leaf tag (leaves.Number n))) = true
is_number (Some (shape.Leaf tag leaves.Microseconds)) = true
is_number other = false

-- elements of this shape are INTEGERs of which the number is that stands last
abbrev pub is_integer : Option Shape → Bool
is_integer (Some (shape.Leaf tag leaves.Integer)) = true
is_integer other = false

-- the content of the INTEGER of a number below 256 (X.690, 8.3)
abbrev pub number_content : ℕ → List ℕ
number_content n = if nat_lt n 128 then n ∷ [] else 0 ∷ n ∷ []

-- the number that stands last where a case applies, if it is that of the field before
abbrev pub known_number : Bool → Option ℕ → Option (List ℕ)
known_number false behind = None
known_number true None = None
known_number true (Some n) = Some (number_content n)

-- how octets and other leaves begin, where octets of formats that are no DER begin so
abbrev pub octets_kinds : Kinds → Kinds
octets_kinds kinds roles.None number = of_leaf ∷ []
octets_kinds kinds role number = kinds role number

abbrev pub octets_firsts : Kinds → Option (List ℕ) → List ℕ → Role → List First
octets_firsts kinds number name role = openings (octets_kinds kinds role number) name

abbrev pub leaf_firsts : Kinds → Leaf → List ℕ → Role → List First
leaf_firsts kinds leaves.Octets name role = octets_firsts kinds None name role
leaf_firsts kinds kind name role = openings (of_leaf ∷ []) name

-- how octets of formats that are no DER begin; the rows that are asked for; how many levels first lines are looked for; and the table
module _ (kinds : Kinds) (covers : ℕ → Bool) (deep : ℕ) (shapes : List Shape) (fields : List FieldRow) (cases : List CaseRow) where
  -- ---- first lines

  abbrev pub held_firsts : (ℕ → List ℕ → Role → List First) → List CaseRow → List ℕ → Role → List First
  held_firsts inner [] name role = leaf_firsts kinds leaves.Octets name role
  held_firsts inner (c ∷ cs) name role = inner c.2 (own_text c.1 name) (own_role c.1 role) ++ held_firsts inner cs name role

  abbrev pub shape_firsts : (ℕ → List ℕ → Role → List First) → Shape → List ℕ → Role → List First
  shape_firsts inner (shape.Leaf tag kind) name role = leaf_firsts kinds kind name role
  shape_firsts inner (shape.Tagged tag is) name role = inner is name role
  shape_firsts inner (shape.Sequence tag start count) name role = openings (of_struct ∷ []) name
  shape_firsts inner (shape.SequenceOf tag is filled) name role = list_firsts (is_component_shape (slice_get shapes is)) name
  shape_firsts inner (shape.Holding start count) name role = held_firsts inner (part start count cases) name role
  shape_firsts inner shape.Any name role = openings (of_leaf ∷ []) name

  abbrev pub option_firsts : (ℕ → List ℕ → Role → List First) → Option Shape → List ℕ → Role → List First
  option_firsts inner None name role = []
  option_firsts inner (Some s) name role = shape_firsts inner s name role

  -- of elements of a row, which are called so
  abbrev pub firsts : ℕ → ℕ → List ℕ → Role → List First
  firsts zero is name role = []
  firsts (suc n) is name role = option_firsts (firsts n) (slice_get shapes is) name role

  -- ---- fields

  abbrev pub field_names : FieldRow → List (List ℕ)
  field_names x = names_of (firsts deep x.6 x.3 x.5)

  -- the first name of these fields is one of these, where names follow
  abbrev pub begins : List FieldRow → List (List ℕ) → List (List ℕ)
  begins [] names = names
  begins (x ∷ xs) names = field_names x ++ (if x.2 then begins xs names else [])

  -- a field that is absent is told by the name that follows
  abbrev pub fit : List FieldRow → List (List ℕ) → Bool
  fit [] names = true
  fit (x ∷ xs) names = (if x.2 then are_apart (field_names x) (begins xs names) else true) && fit xs names

  -- fields that begin under different names, after as many numbers
  abbrev pub apart_fields : List FieldRow → List FieldRow → Bool
  apart_fields [] ys = false
  apart_fields (x ∷ xs) [] = false
  apart_fields (x ∷ xs) (y ∷ ys) =
      (other_than x.2 && are_apart (field_names x) (begins (y ∷ ys) []))
      || ((other_than y.2 && are_apart (field_names y) (begins (x ∷ xs) []))
      || ((other_than x.2 && other_than y.2) && ((is_number (slice_get shapes x.6) && is_number (slice_get shapes y.6)) && apart_fields xs ys)))

  abbrev pub apart_sequences : Option (List FieldRow) → Option (List FieldRow) → Bool
  apart_sequences None other = false
  apart_sequences (Some xs) None = false
  apart_sequences (Some xs) (Some ys) = apart_fields xs ys

  -- the fields of a row of a SEQUENCE, also in explicit tags
  abbrev pub sequence_by : (ℕ → Option (List FieldRow)) → Option Shape → Option (List FieldRow)
  sequence_by inner (Some (shape.Tagged tag is)) = inner is
  sequence_by inner (Some (shape.Sequence tag start count)) = Some (part start count fields)
  sequence_by inner other = None

  abbrev pub sequence : ℕ → ℕ → Option (List FieldRow)
  sequence zero is = None
  sequence (suc n) is = sequence_by (sequence n) (slice_get shapes is)

  -- ---- rows

  -- what two cases hold begins otherwise
  abbrev pub case_firsts : ℕ → CaseRow → List ℕ → Role → List First
  case_firsts n c name role = firsts n c.2 (own_text c.1 name) (own_role c.1 role)

  abbrev pub apart_rows : ℕ → CaseRow → CaseRow → List ℕ → Role → Bool
  apart_rows n c d name role =
      ((other_than (is_own c.1) && other_than (is_own d.1)) && apart_sequences (sequence n c.2) (sequence n d.2))
      || apart_firsts (case_firsts n c name role) (case_firsts n d name role)

  -- What a case holds is told from what the others hold, and from plain octets behind the same number: which this is, is known where the number that
  -- stands last is that of the field before (`linked`).
  abbrev pub apart_cases : ℕ → Bool → CaseRow → List CaseRow → List ℕ → Role → Bool
  apart_cases n linked c [] name role = apart_firsts (case_firsts n c name role) (octets_firsts kinds (known_number linked c.0) name role)
  apart_cases n linked c (d ∷ ds) name role = (never_both c.0 d.0 || apart_rows n c d name role) && apart_cases n linked c ds name role

  abbrev pub case_fits : (ℕ → List ℕ → Role → Bool) → CaseRow → List ℕ → Role → Bool
  case_fits inner c name role = own_is_name c.1 && inner c.2 (own_text c.1 name) (own_role c.1 role)

  abbrev pub held_fits : (ℕ → List ℕ → Role → Bool) → ℕ → Bool → List CaseRow → List ℕ → Role → Bool
  held_fits inner n linked [] name role = true
  held_fits inner n linked (c ∷ cs) name role = case_fits inner c name role && (apart_cases n linked c cs name role && held_fits inner n linked cs name role)

  -- no field stands before what is in a list or in an OCTET STRING
  abbrev pub shape_fits : (Bool → ℕ → List ℕ → Role → Bool) → ℕ → Bool → Shape → List ℕ → Role → Bool
  shape_fits inner n linked (shape.Tagged tag is) name role = inner linked is name role
  shape_fits inner n linked (shape.SequenceOf tag is filled) name role = inner true is name role
  shape_fits inner n linked (shape.Holding start count) name role = held_fits (inner true) n linked (part start count cases) name role
  shape_fits inner n linked other name role = true

  abbrev pub option_fits : (Bool → ℕ → List ℕ → Role → Bool) → ℕ → Bool → Option Shape → List ℕ → Role → Bool
  option_fits inner n linked None name role = true
  option_fits inner n linked (Some s) name role = shape_fits inner n linked s name role

  -- elements of this row, which are called so, are told apart, if the fields of each SEQUENCE are
  abbrev pub fits : ℕ → Bool → ℕ → List ℕ → Role → Bool
  fits zero linked is name role = true
  fits (suc n) linked is name role = covers is && option_fits (fits n) n linked (slice_get shapes is) name role

  -- ---- the table

  -- the number that stands last is that of the field before, behind this field
  abbrev pub linked_behind : Bool → FieldRow → Bool
  linked_behind linked x = is_integer (slice_get shapes x.6) && (if x.2 then linked else true)

  abbrev pub field_fits : Bool → FieldRow → Bool
  field_fits linked x = is_name x.3 && (is_tagged x.1 x.0 && fits deep linked x.6 x.3 x.5)

  abbrev pub all_fit : Bool → List FieldRow → Bool
  all_fit linked [] = true
  all_fit linked (x ∷ xs) = field_fits linked x && all_fit (linked_behind linked x) xs

  abbrev pub fields_fit : Shape → Bool
  fields_fit (shape.Sequence tag start count) = all_fit true (part start count fields) && fit (part start count fields) []
  fields_fit other = true

  abbrev pub rows_fit : ℕ → List Shape → Bool
  rows_fit i [] = true
  rows_fit i (s ∷ rows) = (other_than (covers i) || fields_fit s) && rows_fit (suc i) rows

  abbrev pub is_told : Bool
  is_told = rows_fit 0 shapes
