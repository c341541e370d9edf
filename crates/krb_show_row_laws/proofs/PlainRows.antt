-- A list of elements of a row is one of components of names, or has none first.
use Rattle.std.proofs.Common.{◌≡◌, ℕ, zero, suc, Bool, true, false, refl, sym, subst, List, [], ◌∷◌}
use Rattle.std.specs.List.{slice_get}
use Rattle.krb_schema.specs.declared.item.Form.TheVariants as items
use Rattle.krb_schema.specs.declared.item.Node.TheVariants as nodes
use Rattle.krb_schema.specs.declared.shape.Case.{Case}
use Rattle.krb_schema.specs.declared.shape.Field.{Field}
use Rattle.krb_schema.specs.declared.shape.Name.{Name}
use Rattle.krb_schema.specs.declared.shape.Schema.{Schema}
use Rattle.krb_schema.specs.declared.shape.Shape.{Shape}
use Rattle.krb_schema.specs.declared.shape.Shape.TheVariants as shape
use Rattle.krb_schema.specs.Forests.{Forest, none, leaf, node, beside, enc}
use Rattle.krb_schema.specs.Shapes.{AreElements, AreFields, IsElement, IsHeld, IsShaped, called, list_node, part, no_fields, absent, wrapped, bare, no_elements, one_more, here, later, plain}
use Rattle.krb_show.specs.Items.{is_component}
use Rattle.krb_show_row_laws.specs.Pages.{components, is_of_name}
use Rattle.krb_show_row_laws.proofs.ListRows.{are_components, component_tag, elements_name, in_a_row}

-- each is a component of a name
abbrev pub AllComponents : Forest → Type 0
AllComponents none = Unit {0}
AllComponents (leaf kind name tag content rest) = (is_component (items.Leaf kind) ≡ true) × AllComponents rest
AllComponents (node kind name tag inside rest) = ⊥

abbrev pub Either : Bool → Type 0 → Type 0 → Type 0
Either true A B = A
Either false A B = B

-- lists whose first is a component of a name have such alone
abbrev pub IsPlain : Forest → Type 0
IsPlain none = Unit {0}
IsPlain (leaf kind name tag content rest) = IsPlain rest
IsPlain (node nodes.Wrap name tag inside rest) = IsPlain inside × IsPlain rest
IsPlain (node nodes.Struct name tag inside rest) = IsPlain inside × IsPlain rest
IsPlain (node nodes.List name tag inside rest) = Either (is_of_name inside) (AllComponents inside) (IsPlain inside) × IsPlain rest
IsPlain (node nodes.FilledList name tag inside rest) = Either (is_of_name inside) (AllComponents inside) (IsPlain inside) × IsPlain rest

plain_beside : (f g : Forest) → IsPlain f → IsPlain g → IsPlain (beside f g)
plain_beside none g h k = k
plain_beside (leaf kind name tag content rest) g h k = plain_beside rest g h k
plain_beside (node nodes.Wrap name tag inside rest) g h k = (h.0, plain_beside rest g h.1 k)
plain_beside (node nodes.Struct name tag inside rest) g h k = (h.0, plain_beside rest g h.1 k)
plain_beside (node nodes.List name tag inside rest) g h k = (h.0, plain_beside rest g h.1 k)
plain_beside (node nodes.FilledList name tag inside rest) g h k = (h.0, plain_beside rest g h.1 k)

all_in_a_row : (name : Name) (tag : ℕ) (cs : List (List ℕ)) → AllComponents (in_a_row name tag cs)
all_in_a_row name tag [] = tt
all_in_a_row name tag (c ∷ cs) = (refl, all_in_a_row name tag cs)

either : (b : Bool) {A B : Type 0} → (b ≡ true → A) → B → Either b A B
either true f b = f refl
either false f b = b

module _ (R : ℕ → Name → List ℕ → Forest → Type 0) (plains : (is : ℕ) (name : Name) (before : List ℕ) (f : Forest) → R is name before f → IsPlain f) where
  plain_elements : (is : ℕ) (name : Name) (f : Forest) → AreElements (R is name []) f → IsPlain f
  plain_elements is name f no_elements = tt
  plain_elements is name f (one_more a as_ r rs) = plain_beside a as_ (plains is name [] a r) (plain_elements is name as_ rs)

  plain_fields : (fields : List Field) (before : List ℕ) (f : Forest) → AreFields R fields before f → IsPlain f
  plain_fields fields before f (no_fields b) = tt
  plain_fields fields before f (absent fd fs b rest may other r) = plain_fields fs b rest r
  plain_fields fields before f (wrapped fd fs b t inside rest w first r p) = (plains fd.is fd.name b inside r, plain_fields fs (enc inside) rest p)
  plain_fields fields before f (bare fd fs b element rest w starts r p) =
      plain_beside element rest (plains fd.is fd.name b element r) (plain_fields fs (enc element) rest p)

  plain_held : (name : Name) (before content : List ℕ) (cs : List Case) (f : Forest) → IsHeld R name before content cs f → IsPlain f
  plain_held name before content cs f (here c ds inside applies r e) = (plains c.is (called c name) [] inside r, tt)
  plain_held name before content cs f (later c ds element lacks r) = plain_held name before content ds element r
  plain_held name before content cs f plain = tt

plain_list : (filled : Bool) (name : Name) (tag : ℕ) (inside : Forest) → Either (is_of_name inside) (AllComponents inside) (IsPlain inside)
    → IsPlain (node (list_node filled) name tag inside none)
plain_list true name tag inside h = (h, tt)
plain_list false name tag inside h = (h, tt)

shaped_plain : (levels : ℕ) (schema : Schema) → ((is : ℕ) (name : Name) (before : List ℕ) (f : Forest) → IsElement levels schema is name before f → IsPlain f)
    → (s : Shape) (name : Name) (before : List ℕ) (f : Forest) → IsShaped (IsElement levels schema) schema s name before f → IsPlain f
shaped_plain levels schema plains (shape.Leaf tag kind) name before f v = subst IsPlain (sym v.2) tt
shaped_plain levels schema plains (shape.Tagged tag is) name before f v = subst IsPlain (sym v.2) (plains is name before v.0 v.1, tt)
shaped_plain levels schema plains (shape.Sequence tag start count) name before f v =
    subst IsPlain (sym v.3) (plain_fields (IsElement levels schema) plains (part start count schema.fields.now) [] v.0 v.2, tt)
shaped_plain levels schema plains (shape.SequenceOf tag is filled) name before f v =
    subst IsPlain (sym v.2) (plain_list filled name tag v.0 (either (is_of_name v.0) components_all
    (plain_elements (IsElement levels schema) plains is name v.0 v.1)))
  where
    components_all : is_of_name v.0 ≡ true → AllComponents v.0
    components_all e =
        let t = component_tag (slice_get schema.shapes.now is) (elements_name levels schema is name v.0 v.1 e) in
        subst AllComponents (sym (are_components levels schema is name t.0 v.0 t.1 v.1).whole) (all_in_a_row name t.0 (components v.0))
shaped_plain levels schema plains (shape.Holding start count) name before f v =
    plain_held (IsElement levels schema) plains name before v.0 (part start count schema.cases.now) f v.2
shaped_plain levels schema plains shape.Any name before f v = subst IsPlain (sym v.3) tt

pub plain_element : (levels : ℕ) (schema : Schema) (is : ℕ) (name : Name) (before : List ℕ) (f : Forest) → IsElement levels schema is name before f → IsPlain f
plain_element zero schema is name before f v = absurd v
plain_element (suc levels) schema is name before f v = shaped_plain levels schema (plain_element levels schema) v.0 name before f v.2
