-- Octets are those of one row of elements, and so have one list of items.
use Rattle.std.proofs.Common.{◌≡◌, ℕ, zero, suc, refl, sym, ap, ◌∙◌, subst, List, [], ◌++◌, length, arith, Option, Some, None}
use Rattle.krb_der_core.specs.Tlv.{tlv}
use Rattle.krb_der_core.specs.TlvLaws.{tlv_apart}
use Rattle.krb_der_core.specs.ErrorLaws.{clash}
use Rattle.krb_schema.specs.declared.item.Item.{Item}
use Rattle.krb_schema.specs.declared.item.Node.TheVariants as nodes
use Rattle.krb_schema.specs.declared.shape.Name.{Name}
use Rattle.krb_schema.specs.declared.shape.Leaf.TheVariants as leaves
use Rattle.krb_schema.specs.declared.shape.Field.{Field}
use Rattle.krb_schema.specs.declared.shape.Case.{Case}
use Rattle.krb_schema.specs.declared.shape.Schema.{Schema}
use Rattle.krb_schema.specs.declared.shape.Shape.{Shape}
use Rattle.krb_schema.specs.declared.shape.Shape.TheVariants as shapes
use Rattle.krb_schema.specs.Forests.{Forest, none, leaf, node, beside, enc, items_at}
use Rattle.krb_schema.specs.Shapes.{AreElements, AreFields, IsElement, IsHeld, IsShaped, called, list_node, part, no_fields, absent, wrapped, bare, no_elements, one_more, here, later, plain}
use Rattle.krb_schema.specs.Walks.{Walked}
use Rattle.krb_schema.proofs.Walking.{enc_beside}
use Rattle.krb_schema.proofs.Beginnings.{begins_behind, tlv_begins}
use Rattle.krb_schema.proofs.Refusals.{IsAnOne, element_one, held_one, same_one}

-- an element has octets
some_octets : (t : ℕ) (content rest : List ℕ) → [] ≡ tlv t content ++ rest → ⊥
unfolding tlv
some_octets t content rest e = absurd (omega (arith, ap (λ (l : List ℕ). length l) e))

both : (f g x y : Forest) → f ≡ g → x ≡ y → beside f x ≡ beside g y
both f g x y p q = ap (λ (h : Forest). beside h x) p ∙ ap (λ (h : Forest). beside g h) q

abbrev given : Option Shape → Shape → Shape
given None other = other
given (Some shape) other = shape

-- ---- rows, fields and contents, where elements of the same octets are the same

module _ (R : ℕ → Name → List ℕ → Forest → Type 0) (one : (is : ℕ) (name : Name) (before : List ℕ) (f : Forest) → R is name before f → IsAnOne f)
    (same : (is : ℕ) (name : Name) (before : List ℕ) (f g : Forest) → R is name before f → R is name before g → enc f ≡ enc g → f ≡ g) where
  some_more : (is : ℕ) (name : Name) (before : List ℕ) (f more : Forest) → R is name before f → [] ≡ enc (beside f more) → ⊥
  some_more is name before f more r e =
      let u = one is name before f r in
      some_octets u.tag u.content (enc more) (e ∙ enc_beside f more ∙ ap (λ (o : List ℕ). o ++ enc more) u.whole)

  same_elements : (is : ℕ) (name : Name) (f g : Forest) → AreElements (R is name []) f → AreElements (R is name []) g → enc f ≡ enc g → f ≡ g
  same_elements is name f g no_elements no_elements e = refl
  same_elements is name f g no_elements (one_more b bs w ws) e = absurd (some_more is name [] b bs w e)
  same_elements is name f g (one_more a as_ r rs) no_elements e = absurd (some_more is name [] a as_ r (sym e))
  same_elements is name f g (one_more a as_ r rs) (one_more b bs w ws) e =
      let s = same_one a b (enc as_) (enc bs) (one is name [] a r) (one is name [] b w) (sym (enc_beside a as_) ∙ e ∙ enc_beside b bs) in
      both a b as_ bs (same is name [] a b r w s.octets) (same_elements is name as_ bs rs ws s.rest)

  same_fields : (fields : List Field) (before : List ℕ) (f g : Forest) → AreFields R fields before f → AreFields R fields before g → enc f ≡ enc g → f ≡ g
  same_fields fields before f g (no_fields b) (no_fields c) e = refl
  same_fields fields before f g (absent fd fs b rest may other r) (absent gd gs c last may_too other_too v) e = same_fields fs before rest last r v e
  same_fields fields before f g (absent fd fs b rest may other r) (wrapped gd gs c t within last w first v q) e =
      absurd (other (tlv_begins fd.tag t (enc rest) (enc within) (enc last) first e))
  same_fields fields before f g (absent fd fs b rest may other r) (bare gd gs c element last w begins v q) e =
      absurd (other (begins_behind fd.tag (enc rest) (enc element) (enc last) (e ∙ enc_beside element last) begins))
  same_fields fields before f g (wrapped fd fs b t inside rest w first r p) (absent gd gs c last may other v) e =
      absurd (other (tlv_begins fd.tag t (enc last) (enc inside) (enc rest) first (sym e)))
  same_fields fields before f g (wrapped fd fs b t inside rest w first r p) (wrapped gd gs c n within last z initial v q) e =
      let a = tlv_apart t n (enc inside) (enc within) (enc rest) (enc last) e in
      let content = same fd.is fd.name before inside within r v a.content in
      let others = same_fields fs (enc inside) rest last p (subst (λ (l : List ℕ). AreFields R fs l last) (sym a.content) q) a.rest in
      ap (λ (m : ℕ). node nodes.Wrap fd.name m inside rest) a.tag ∙ ap (λ (h : Forest). node nodes.Wrap fd.name n h rest) content
      ∙ ap (λ (h : Forest). node nodes.Wrap fd.name n within h) others
  same_fields fields before f g (wrapped fd fs b t inside rest w first r p) (bare gd gs c element last z begins v q) e = absurd (clash fd.wrapped w z)
  same_fields fields before f g (bare fd fs b element rest w begins r p) (absent gd gs c last may other v) e =
      absurd (other (begins_behind fd.tag (enc last) (enc element) (enc rest) (sym e ∙ enc_beside element rest) begins))
  same_fields fields before f g (bare fd fs b element rest w begins r p) (wrapped gd gs c n within last z initial v q) e = absurd (clash fd.wrapped z w)
  same_fields fields before f g (bare fd fs b element rest w begins r p) (bare gd gs c other last z starts v q) e =
      let s = same_one element other (enc rest) (enc last) (one fd.is fd.name before element r) (one fd.is fd.name before other v)
      (sym (enc_beside element rest) ∙ e ∙ enc_beside other last) in
      both element other rest last (same fd.is fd.name before element other r v s.octets)
      (same_fields fs (enc element) rest last p (subst (λ (l : List ℕ). AreFields R fs l last) (sym s.octets) q) s.rest)

  same_held : (name : Name) (before content : List ℕ) (cases : List Case) (f g : Forest) → IsHeld R name before content cases f → IsHeld R name before content cases g → f ≡ g
  same_held name before content cases f g (here c cs inside applies r e) (here d ds within applies_too v u) =
      ap (λ (h : Forest). node nodes.Wrap name 4 h none) (same c.is (called c name) [] inside within r v (sym e ∙ u))
  same_held name before content cases f g (here c cs inside applies r e) (later d ds element lacks v) = absurd (lacks applies inside r e)
  same_held name before content cases f g (later c cs element lacks r) (here d ds within applies v u) = absurd (lacks applies within v u)
  same_held name before content cases f g (later c cs element lacks r) (later d ds other lacks_too v) = same_held name before content cs element other r v
  same_held name before content cases f g plain plain = refl

  pub same_shaped : (schema : Schema) (shape : Shape) (name : Name) (before : List ℕ) (f g : Forest) → IsShaped R schema shape name before f → IsShaped R schema shape name before g
      → enc f ≡ enc g → f ≡ g
  same_shaped schema (shapes.Leaf tag kind) name before f g v w e =
      v.2 ∙ ap (λ (c : List ℕ). leaf kind name tag c none) (tlv_apart tag tag v.0 w.0 [] [] (sym (ap enc v.2) ∙ e ∙ ap enc w.2)).content ∙ sym w.2
  same_shaped schema (shapes.Tagged tag is) name before f g v w e =
      v.2 ∙ ap (λ (h : Forest). node nodes.Wrap name tag h none)
      (same is name before v.0 w.0 v.1 w.1 (tlv_apart tag tag (enc v.0) (enc w.0) [] [] (sym (ap enc v.2) ∙ e ∙ ap enc w.2)).content) ∙ sym w.2
  same_shaped schema (shapes.Sequence tag start count) name before f g v w e =
      v.3 ∙ ap (λ (h : Forest). node nodes.Struct name tag h none)
      (same_fields (part start count schema.fields.now) [] v.0 w.0 v.2 w.2 (tlv_apart tag tag (enc v.0) (enc w.0) [] [] (sym (ap enc v.3) ∙ e ∙ ap enc w.3)).content) ∙ sym w.3
  same_shaped schema (shapes.SequenceOf tag is filled) name before f g v w e =
      v.2 ∙ ap (λ (h : Forest). node (list_node filled) name tag h none)
      (same_elements is name v.0 w.0 v.1 w.1 (tlv_apart tag tag (enc v.0) (enc w.0) [] [] (sym (ap enc v.2) ∙ e ∙ ap enc w.2)).content) ∙ sym w.2
  same_shaped schema (shapes.Holding start count) name before f g v w e =
      let cases = part start count schema.cases.now in
      let a = tlv_apart 4 4 v.0 w.0 [] [] (ap (λ (o : List ℕ). o ++ []) (sym (held_one R name before v.0 cases f v.2) ∙ e ∙ held_one R name before w.0 cases g w.2)) in
      same_held name before w.0 cases f g (subst (λ (c : List ℕ). IsHeld R name before c cases f) a.content v.2) w.2
  same_shaped schema shapes.Any name before f g v w e =
      let a = tlv_apart v.0 w.0 v.1 w.1 [] [] (sym (ap enc v.3) ∙ e ∙ ap enc w.3) in
      v.3 ∙ ap (λ (t : ℕ). leaf leaves.Any name t v.1 none) a.tag ∙ ap (λ (c : List ℕ). leaf leaves.Any name w.0 c none) a.content ∙ sym w.3

-- ---- elements

pub same_element : (levels : ℕ) (schema : Schema) (is : ℕ) (name : Name) (before : List ℕ) (f g : Forest) → IsElement levels schema is name before f → IsElement levels schema is name before g
    → enc f ≡ enc g → f ≡ g
same_element zero schema is name before f g v w e = absurd v
same_element (suc levels) schema is name before f g v w e =
    let p = ap (λ (o : Option Shape). given o v.0) (sym v.1 ∙ w.1) in
    same_shaped (IsElement levels schema) (element_one levels schema) (same_element levels schema) schema w.0 name before f g
    (subst (λ (s : Shape). IsShaped (IsElement levels schema) schema s name before f) p v.2) w.2 e

pub one_items : (schema : Schema) (is : ℕ) (name : Name) (octets : List ℕ) (items other : List Item) → Walked (IsElement 64 schema is name []) octets 0 0 [] items
    → Walked (IsElement 64 schema is name []) octets 0 0 [] other → items ≡ other
one_items schema is name octets items other v w =
    v.3 ∙ ap (λ (h : Forest). [] ++ items_at 0 0 h) (same_element 64 schema is name [] v.0 w.0 v.1 w.1 (sym v.2 ∙ w.2)) ∙ sym w.3
