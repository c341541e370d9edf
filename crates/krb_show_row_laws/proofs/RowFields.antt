-- From the table to the shapes and the fields of a row.
use Rattle.std.proofs.Common.{◌≡◌, ◌⊎◌, inl, inr, ℕ, suc, ◌+◌, ◌≤◌, length, ◌==◌, refl, sym, ap, subst, ◌∙◌, arith, Bool, true, false, Option, Some, List, [], ◌∷◌, ◌++◌, map, take, drop}
use Rattle.std.specs.List.{slice_get}
use Rattle.std.proofs.lemmas.List.{append-nil, length-map, take-map, drop-map}
use Rattle.std.proofs.lemmas.Grind.{common_steps}
use Rattle.krb_registry.specs.declared.kind.Kind.{Kind}
use Rattle.krb_der_core.specs.Tlv.{tlv}
use Rattle.krb_schema.specs.declared.shape.Field.{Field}
use Rattle.krb_schema.specs.declared.shape.Leaf.{Leaf}
use Rattle.krb_schema.specs.declared.shape.Name.{Name}
use Rattle.krb_schema.specs.declared.shape.Role.{Role}
use Rattle.krb_schema.specs.declared.shape.Schema.{Schema}
use Rattle.krb_schema.specs.declared.shape.Shape.{Shape}
use Rattle.krb_schema.specs.declared.item.Node.TheVariants as nodes
use Rattle.krb_schema.specs.Forests.{Forest, none, leaf, node, enc}
use Rattle.krb_schema.specs.Leaves.{IsLeaf}
use Rattle.krb_schema.specs.Named.{IsKerberos, field_row}
use Rattle.krb_schema.specs.declared.shape.Shape.TheVariants as shape
use Rattle.krb_schema.specs.Shapes.{AreFields, Begins, IsElement, IsRange, IsShaped, absent, bare, is_first, no_fields, part, wrapped}
use Rattle.krb_schema.specs.Types.{fields as all_fields, shapes}

-- a list that is mapped to one with a first element has one
pub first_of : {X Y : Type 0} (g : X → Y) (xs : List X) (y : Y) (ys : List Y) → map g xs ≡ y ∷ ys
    → (x : X) × (rest : List X) × (xs ≡ x ∷ rest) × (g x ≡ y) × (map g rest ≡ ys)
first_of g [] y ys e = absurd (none_is e)
  where
    none_is : [] ≡ y ∷ ys → ⊥
    none_is e = cc
first_of g (x ∷ xs) y ys e = (x, xs, refl, cc, cc)

pub last_of : {X Y : Type 0} (g : X → Y) (xs : List X) → map g xs ≡ [] → xs ≡ []
last_of g [] e = refl
last_of g (x ∷ xs) e = absurd (some_is e)
  where
    some_is : g x ∷ map g xs ≡ [] → ⊥
    some_is e = cc

pub part_map : {X Y : Type 0} (g : X → Y) (start count : ℕ) (xs : List X) → map g (part start count xs) ≡ part start count (map g xs)
part_map g start count xs = sym (ap (take count) (drop-map g start xs) ∙ take-map g count (drop start xs))

-- the shape of a row
pub shape_of : (schema : Schema) (is : ℕ) (s t : Shape) → IsKerberos schema → slice_get shapes is ≡ Some t → slice_get schema.shapes.now is ≡ Some s → s ≡ t
shape_of schema is s t k e f = one_some (sym f ∙ ap (λ (l : List Shape). slice_get l is) k.rows ∙ e)
  where
    one_some : Some s ≡ Some t → s ≡ t
    one_some q = cc

pub shape_at : (schema : Schema) (is : ℕ) (t : Shape) → IsKerberos schema → slice_get shapes is ≡ Some t → slice_get schema.shapes.now is ≡ Some t
shape_at schema is t k e = ap (λ (l : List Shape). slice_get l is) k.rows ∙ e

-- a field in its tag, of this row: one that has to be there, or not
abbrev pub Row : Type 0
Row = Option ℕ × Bool × Bool × List ℕ × Option Kind × Role × ℕ

pub record IsIn (field : Field) (tag : ℕ) (optional : Bool) (is : ℕ) : Type 0 where
  pub in_tag : field.tag ≡ Some tag
  pub in_wrap : field.wrapped ≡ true
  pub may_be : field.optional ≡ optional
  pub of_row : field.is ≡ is

pub is_in : (field : Field) (tag : ℕ) (optional : Bool) (text : List ℕ) (kind : Option Kind) (role : Role) (is : ℕ)
    → field_row field ≡ (Some tag, true, optional, text, kind, role, is) → IsIn field tag optional is
is_in field tag optional text kind role is e =
    record { in_tag = ap (λ (r : Row). r.0) e; in_wrap = ap (λ (r : Row). r.1) e; may_be = ap (λ (r : Row). r.2) e; of_row = ap (λ (r : Row). r.6) e }

-- ---- fields of a forest

same_tag : (a b : ℕ) → (a == b) ≡ true → a ≡ b
same_tag a b e = grind (arith, common_steps)

clash : (b : Bool) → b ≡ true → b ≡ false → ⊥
clash b e f = cc

tag_is : (tag : Option ℕ) (t n : ℕ) → tag ≡ Some n → is_first tag t ≡ true → t ≡ n
tag_is tag t n e f = same_tag t n (subst (λ (o : Option ℕ). is_first o t ≡ true) e f)

tag_first : (tag : Option ℕ) (n : ℕ) → tag ≡ Some n → is_first tag n ≡ true
tag_first tag n e = subst (λ (o : Option ℕ). is_first o n ≡ true) (sym e) (itself n)
  where
    itself : (n : ℕ) → (n == n) ≡ true
    itself n = grind (arith, common_steps)

-- octets of one element of a row, and of fields in order
pub record OfRow (levels : ℕ) (schema : Schema) (is : ℕ) (name : Name) (before octets : List ℕ) : Type 0 where
  pub forest : Forest
  pub element : IsElement levels schema is name before forest
  pub octets_are : octets ≡ enc forest

pub record OfFields (levels : ℕ) (schema : Schema) (fields : List Field) (before octets : List ℕ) : Type 0 where
  pub forest : Forest
  pub are : AreFields (IsElement levels schema) fields before forest
  pub octets_are : octets ≡ enc forest

-- ---- an element without elements

pub record LeafOf (kind : Leaf) (tag : ℕ) (octets : List ℕ) : Type 0 where
  pub content : List ℕ
  pub is_leaf : IsLeaf kind content
  pub octets_are : octets ≡ tlv tag content

module _ (schema : Schema) (kerberos : IsKerberos schema) (levels : ℕ) where
  pub leaf_out : (is tag : ℕ) (kind : Leaf) (name : Name) (before octets : List ℕ) → slice_get shapes is ≡ Some (shape.Leaf tag kind)
      → OfRow (suc levels) schema is name before octets → LeafOf kind tag octets
  leaf_out is tag kind name before octets at h =
      let p = shape_of schema is h.element.0 (shape.Leaf tag kind) kerberos at h.element.1 in
      let w = subst (λ (s : Shape). IsShaped (IsElement levels schema) schema s name before h.forest) p h.element.2 in
      record { content = w.0; is_leaf = w.1; octets_are = h.octets_are ∙ ap enc w.2 ∙ append-nil (tlv tag w.0) }

  pub leaf_in : (is tag : ℕ) (kind : Leaf) (name : Name) (before octets : List ℕ) → slice_get shapes is ≡ Some (shape.Leaf tag kind)
      → LeafOf kind tag octets → OfRow (suc levels) schema is name before octets
  leaf_in is tag kind name before octets at h = record {
    forest = leaf kind name tag h.content none;
    element = (shape.Leaf tag kind, shape_at schema is (shape.Leaf tag kind) kerberos at, (h.content, h.is_leaf, refl));
    octets_are = h.octets_are ∙ sym (append-nil (tlv tag h.content));
  }

  -- ---- an element in a tag

  pub tagged_out : (is tag into : ℕ) (name : Name) (before octets : List ℕ) → slice_get shapes is ≡ Some (shape.Tagged tag into)
      → OfRow (suc levels) schema is name before octets → (inside : List ℕ) × OfRow levels schema into name before inside × (octets ≡ tlv tag inside)
  tagged_out is tag into name before octets at h =
      let p = shape_of schema is h.element.0 (shape.Tagged tag into) kerberos at h.element.1 in
      let w = subst (λ (s : Shape). IsShaped (IsElement levels schema) schema s name before h.forest) p h.element.2 in
      (enc w.0, record { forest = w.0; element = w.1; octets_are = refl }, h.octets_are ∙ ap enc w.2 ∙ append-nil (tlv tag (enc w.0)))

  pub tagged_in : (is tag into : ℕ) (name : Name) (before octets inside : List ℕ) → slice_get shapes is ≡ Some (shape.Tagged tag into)
      → OfRow levels schema into name before inside → octets ≡ tlv tag inside → OfRow (suc levels) schema is name before octets
  tagged_in is tag into name before octets inside at h e = record {
    forest = node nodes.Wrap name tag h.forest none;
    element = (shape.Tagged tag into, shape_at schema is (shape.Tagged tag into) kerberos at, (h.forest, h.element, refl));
    octets_are = e ∙ ap (tlv tag) h.octets_are ∙ sym (append-nil (tlv tag (enc h.forest)));
  }

  -- ---- a SEQUENCE

  pub sequence_out : (is tag start count : ℕ) (name : Name) (before octets : List ℕ) → slice_get shapes is ≡ Some (shape.Sequence tag start count)
      → OfRow (suc levels) schema is name before octets
      → (inside : List ℕ) × OfFields levels schema (part start count schema.fields.now) [] inside × (octets ≡ tlv tag inside)
  sequence_out is tag start count name before octets at h =
      let p = shape_of schema is h.element.0 (shape.Sequence tag start count) kerberos at h.element.1 in
      let w = subst (λ (s : Shape). IsShaped (IsElement levels schema) schema s name before h.forest) p h.element.2 in
      (enc w.0, record { forest = w.0; are = w.2; octets_are = refl }, h.octets_are ∙ ap enc w.3 ∙ append-nil (tlv tag (enc w.0)))

  pub sequence_in : (is tag start count : ℕ) (name : Name) (before octets inside : List ℕ) → slice_get shapes is ≡ Some (shape.Sequence tag start count)
      → IsRange start count schema.fields.now → OfFields levels schema (part start count schema.fields.now) [] inside → octets ≡ tlv tag inside
      → OfRow (suc levels) schema is name before octets
  sequence_in is tag start count name before octets inside at range h e = record {
    forest = node nodes.Struct name tag h.forest none;
    element = (shape.Sequence tag start count, shape_at schema is (shape.Sequence tag start count) kerberos at, (h.forest, range, h.are, refl));
    octets_are = e ∙ ap (tlv tag) h.octets_are ∙ sym (append-nil (tlv tag (enc h.forest)));
  }

  -- ---- its fields

  pub ended_out : (before octets : List ℕ) → OfFields levels schema [] before octets → octets ≡ []
  ended_out before octets h = h.octets_are ∙ ap enc (nothing h.forest h.are)
    where
      nothing : (f : Forest) → AreFields (IsElement levels schema) [] before f → f ≡ none
      nothing f (no_fields _) = refl

  pub ended_in : (before octets : List ℕ) → octets ≡ [] → OfFields levels schema [] before octets
  ended_in before octets e = record { forest = none; are = no_fields before; octets_are = e }

  pub record First (field : Field) (fields : List Field) (tag is : ℕ) (before octets : List ℕ) : Type 0 where
    pub inside : List ℕ
    pub rest : List ℕ
    pub right : OfRow levels schema is field.name before inside
    pub behind : OfFields levels schema fields inside rest
    pub octets_are : octets ≡ tlv tag inside ++ rest

  first_by : (field : Field) (fields : List Field) (tag : ℕ) (optional : Bool) (is : ℕ) (before octets : List ℕ) (t : ℕ) (inside rest : Forest) → IsIn field tag optional is
      → is_first field.tag t ≡ true → IsElement levels schema field.is field.name before inside → AreFields (IsElement levels schema) fields (enc inside) rest
      → octets ≡ tlv t (enc inside) ++ enc rest → First field fields tag is before octets
  first_by field fields tag optional is before octets t inside rest i first right behind e = record {
    inside = enc inside;
    rest = enc rest;
    right = record { forest = inside; element = subst (λ (n : ℕ). IsElement levels schema n field.name before inside) i.of_row right; octets_are = refl };
    behind = record { forest = rest; are = behind; octets_are = refl };
    octets_are = e ∙ ap (λ (n : ℕ). tlv n (enc inside) ++ enc rest) (tag_is field.tag t tag i.in_tag first);
  }

  pub required_out : (field : Field) (fields : List Field) (tag is : ℕ) (before octets : List ℕ) → IsIn field tag false is
      → OfFields levels schema (field ∷ fields) before octets → First field fields tag is before octets
  required_out field fields tag is before octets i h = by_case h.forest h.are h.octets_are
    where
      by_case : (f : Forest) → AreFields (IsElement levels schema) (field ∷ fields) before f → octets ≡ enc f → First field fields tag is before octets
      by_case f (absent _ _ _ rest o b r) e = absurd (clash field.optional o i.may_be)
      by_case f (wrapped _ _ _ t inside rest w first right behind) e = first_by field fields tag false is before octets t inside rest i first right behind e
      by_case f (bare _ _ _ element rest w b right behind) e = absurd (clash field.wrapped i.in_wrap w)

  pub optional_out : (field : Field) (fields : List Field) (tag is : ℕ) (before octets : List ℕ) → IsIn field tag true is
      → OfFields levels schema (field ∷ fields) before octets → First field fields tag is before octets ⊎ OfFields levels schema fields before octets
  optional_out field fields tag is before octets i h = by_case h.forest h.are h.octets_are
    where
      by_case : (f : Forest) → AreFields (IsElement levels schema) (field ∷ fields) before f → octets ≡ enc f
          → First field fields tag is before octets ⊎ OfFields levels schema fields before octets
      by_case f (absent _ _ _ rest o b r) e = inr (record { forest = rest; are = r; octets_are = e })
      by_case f (wrapped _ _ _ t inside rest w first right behind) e = inl (first_by field fields tag true is before octets t inside rest i first right behind e)
      by_case f (bare _ _ _ element rest w b right behind) e = absurd (clash field.wrapped i.in_wrap w)

  pub present_in : (field : Field) (fields : List Field) (tag : ℕ) (optional : Bool) (is : ℕ) (before octets : List ℕ) → IsIn field tag optional is
      → First field fields tag is before octets → OfFields levels schema (field ∷ fields) before octets
  present_in field fields tag optional is before octets i h = record {
    forest = node nodes.Wrap field.name tag h.right.forest h.behind.forest;
    are = wrapped field fields before tag h.right.forest h.behind.forest i.in_wrap (tag_first field.tag tag i.in_tag)
        (subst (λ (n : ℕ). IsElement levels schema n field.name before h.right.forest) (sym i.of_row) h.right.element)
        (subst (λ (o : List ℕ). AreFields (IsElement levels schema) fields o h.behind.forest) h.right.octets_are h.behind.are);
    octets_are = h.octets_are ∙ ap (λ (o : List ℕ). tlv tag o ++ h.rest) h.right.octets_are ∙ ap (λ (o : List ℕ). tlv tag (enc h.right.forest) ++ o) h.behind.octets_are;
  }

  pub absent_in : (field : Field) (fields : List Field) (tag is : ℕ) (before octets : List ℕ) → IsIn field tag true is → (Begins (Some tag) octets → ⊥)
      → OfFields levels schema fields before octets → OfFields levels schema (field ∷ fields) before octets
  absent_in field fields tag is before octets i away h = record {
    forest = h.forest;
    are = absent field fields before h.forest i.may_be
        (λ b. away (subst (Begins (Some tag)) (sym h.octets_are) (subst (λ (o : Option ℕ). Begins o (enc h.forest)) i.in_tag b))) h.are;
    octets_are = h.octets_are;
  }

-- ---- fields of the table

pub in_range : (schema : Schema) (start count : ℕ) → IsKerberos schema → start + count ≤ length all_fields → IsRange start count schema.fields.now
in_range schema start count k h = subst (λ (n : ℕ). start + count ≤ n) (sym (ap length k.parts) ∙ length-map schema.fields.now field_row) h
