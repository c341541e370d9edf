-- Lists of elements are told by their lines, and components of names by their text.
use Rattle.std.proofs.Common.{◌≡◌, ℕ, zero, suc, Bool, true, false, inl, inr, refl, sym, ap, subst, ◌∙◌, List, [], ◌∷◌}
use Rattle.std.specs.Prelude.{Option, None, Some}
use Rattle.std.specs.Fmt.{decimal}
use Rattle.std.specs.List.{AllByRecursion, slice_get}
use Rattle.std.specs.Str.{IsAscii}
use Rattle.krb_der_core.specs.TlvLaws.{tlv_same}
use Rattle.krb_schema.specs.declared.item.Form.TheVariants as items
use Rattle.krb_schema.specs.declared.shape.Case.{Case}
use Rattle.krb_schema.specs.declared.shape.Leaf.{Leaf}
use Rattle.krb_schema.specs.declared.shape.Leaf.TheVariants as leaves
use Rattle.krb_schema.specs.declared.shape.Name.{Name}
use Rattle.krb_schema.specs.declared.shape.Role.{Role}
use Rattle.krb_schema.specs.declared.shape.Schema.{Schema}
use Rattle.krb_schema.specs.declared.shape.Shape.{Shape}
use Rattle.krb_schema.specs.declared.shape.Shape.TheVariants as shape
use Rattle.krb_schema.specs.Forests.{Forest, none, leaf, node, beside}
use Rattle.krb_schema.specs.Shapes.{AreElements, IsElement, IsHeld, IsShaped, part, no_elements, one_more, here, later, plain}
use Rattle.krb_show.specs.NameTexts.{name_text}
use Rattle.krb_show.specs.declared.token.Form.TheVariants as form
use Rattle.krb_show.specs.Leaves.{name_of}
use Rattle.krb_show_text.specs.Text.{quoted}
use Rattle.krb_show_text.specs.declared.escape.Style.TheVariants as style
use Rattle.krb_show.specs.Tokens.{Label, Token, leaf as token_leaf, mark}
use Rattle.krb_show.specs.Items.{is_component}
use Rattle.krb_show_row_laws.specs.Telling.{is_name}
use Rattle.krb_show_row_laws.specs.Blocks.{IsList, Tells}
use Rattle.krb_show_row_laws.specs.Firsts.{BeginsAs, First, Firsts, names_of, of_leaf, of_list, openings}
use Rattle.krb_show_row_laws.specs.Pages.{components, count, forest_shown, is_of_name, label_in, list_shown}
use Rattle.krb_show_row_laws.specs.Tests.{is_component_shape, list_firsts}
use Rattle.krb_show_row_laws.proofs.FieldLaws.{tells_so}
use Rattle.krb_show_row_laws.proofs.StructLaws.{closes_list, enclosed_heads, opens_list, tells_enclosed}
use Rattle.krb_show_row_laws.proofs.LeafLaws.{IsQuotedText, leaf_heads, name_line, tells_names}
use Rattle.krb_show_row_laws.proofs.ComponentLaws.{one_components, text_ascii}
use Rattle.krb_show_row_laws.proofs.FirstLaws.{apart_none, firsts_block, firsts_never, never_tells, one_first, tells_from}
use Rattle.krb_show_row_laws.proofs.ForestLaws.{AreSmall}
use Rattle.krb_show_row_laws.proofs.Told.{Told, elements_blocks, elements_told}

-- ---- whether the first element is a component of a name

module _ (levels : ℕ) (schema : Schema) (name : Name) where
  held_name : (before content : List ℕ) (cs : List Case) (f others : Forest) → IsHeld (IsElement levels schema) name before content cs f
      → is_of_name (beside f others) ≡ false
  held_name before content cs f others (here c ds inside applies r e) = refl
  held_name before content cs f others (later c ds element lacks r) = held_name before content ds element others r
  held_name before content cs f others plain = refl

  shaped_name : (s : Shape) (before : List ℕ) (f others : Forest) → IsShaped (IsElement levels schema) schema s name before f
      → is_of_name (beside f others) ≡ is_component_shape (Some s)
  shaped_name (shape.Leaf tag kind) before f others v = ap (λ (x : Forest). is_of_name (beside x others)) v.2
  shaped_name (shape.Tagged tag is) before f others v = ap (λ (x : Forest). is_of_name (beside x others)) v.2
  shaped_name (shape.Sequence tag start count) before f others v = ap (λ (x : Forest). is_of_name (beside x others)) v.3
  shaped_name (shape.SequenceOf tag is filled) before f others v = ap (λ (x : Forest). is_of_name (beside x others)) v.2
  shaped_name (shape.Holding start count) before f others v = held_name before v.0 (part start count schema.cases.now) f others v.2
  shaped_name shape.Any before f others v = ap (λ (x : Forest). is_of_name (beside x others)) v.3

element_name : (levels : ℕ) (schema : Schema) (is : ℕ) (name : Name) (before : List ℕ) (f others : Forest) → IsElement levels schema is name before f
    → is_of_name (beside f others) ≡ is_component_shape (slice_get schema.shapes.now is)
element_name zero schema is name before f others v = absurd v
element_name (suc levels) schema is name before f others v = shaped_name levels schema name v.0 before f others v.2 ∙ ap is_component_shape (sym v.1)

pub elements_name : (levels : ℕ) (schema : Schema) (is : ℕ) (name : Name) (f : Forest) → AreElements (IsElement levels schema is name []) f
    → is_of_name f ≡ true
    → is_component_shape (slice_get schema.shapes.now is) ≡ true
elements_name levels schema is name f no_elements e = absurd (cc)
elements_name levels schema is name f (one_more a as_ r rs) e = sym (element_name levels schema is name [] a as_ r) ∙ e

-- ---- components

component_kind : (kind : Leaf) → is_component (items.Leaf kind) ≡ true → kind ≡ leaves.Component
component_kind leaves.Component e = refl
component_kind kind e = absurd (cc)

pub component_tag : (o : Option Shape) → is_component_shape o ≡ true → (tag : ℕ) × (o ≡ Some (shape.Leaf tag leaves.Component))
component_tag None e = absurd (cc)
component_tag (Some (shape.Leaf tag kind)) e = (tag, ap (λ (k : Leaf). Some (shape.Leaf tag k)) (component_kind kind e))
component_tag (Some other) e = absurd (cc)

abbrev pub in_a_row : Name → ℕ → List (List ℕ) → Forest
in_a_row name tag [] = none
in_a_row name tag (c ∷ cs) = leaf leaves.Component name tag c (in_a_row name tag cs)

pub record AreComponents (name : Name) (tag : ℕ) (f : Forest) : Type 0 where
  pub whole : f ≡ in_a_row name tag (components f)
  pub ascii : AllByRecursion IsAscii (components f)

given : Option Shape → Shape → Shape
given None other = other
given (Some s) other = s

one_component : (levels : ℕ) (schema : Schema) (is : ℕ) (name : Name) (tag : ℕ) (before : List ℕ) (f : Forest)
    → slice_get schema.shapes.now is ≡ Some (shape.Leaf tag leaves.Component)
    → IsElement levels schema is name before f → (content : List ℕ) × IsAscii content × (f ≡ leaf leaves.Component name tag content none)
one_component zero schema is name tag before f e v = absurd v
one_component (suc levels) schema is name tag before f e v =
    let p : v.0 ≡ shape.Leaf tag leaves.Component = same_shape v.0 (shape.Leaf tag leaves.Component) (sym v.1 ∙ e) in
    let w = subst (λ (s : Shape). IsShaped (IsElement levels schema) schema s name before f) p v.2 in
    (w.0, subst IsAscii (sym (tlv_same 27 27 w.0 w.1.0 w.1.2)) w.1.1, w.2)
  where
    same_shape : (s t : Shape) → Some s ≡ Some t → s ≡ t
    same_shape s t q = cc

pub are_components : (levels : ℕ) (schema : Schema) (is : ℕ) (name : Name) (tag : ℕ) (f : Forest)
    → slice_get schema.shapes.now is ≡ Some (shape.Leaf tag leaves.Component)
    → AreElements (IsElement levels schema is name []) f → AreComponents name tag f
are_components levels schema is name tag f e no_elements = record { whole = refl; ascii = tt }
are_components levels schema is name tag f e (one_more a as_ r rs) =
    let one = one_component levels schema is name tag [] a e r in
    let rest = are_components levels schema is name tag as_ e rs in
    let whole : beside a as_ ≡ leaf leaves.Component name tag one.0 as_ = ap (λ (x : Forest). beside x as_) one.2 in
    record {
      whole = whole ∙ ap (λ (x : Forest). leaf leaves.Component name tag one.0 x) rest.whole
          ∙ ap (λ (x : Forest). in_a_row name tag (components x)) (sym whole);
      ascii = subst (λ (x : Forest). AllByRecursion IsAscii (components x)) (sym whole) (one.1, rest.ascii);
    }

-- ---- lists

module _ (tells : Role → List ℕ → Label → List ℕ → List Token → List Token → Type 0) (levels : ℕ) (schema : Schema) (is : ℕ) (name : Name)
    (named : is_name name.text.now ≡ true)
    {fs : List First} (row : Told tells true fs (IsElement levels schema is name)) where
  abbrev is_named : Bool
  is_named = is_component_shape (slice_get schema.shapes.now is)

  abbrev AreRight : Forest → Type 0
  AreRight = AreElements (IsElement levels schema is name [])

  -- as a list
  as_list : (f : Forest) → AreRight f → AreSmall f → (in_list : Bool) (number : List ℕ)
      → Firsts (openings (of_list ∷ []) name.text.now) (list_shown false (label_in in_list name) f (forest_shown tells true number f))
  as_list f r small in_list number =
      let label = label_in in_list name in
      one_first named
      (enclosed_heads name.text.now IsList (token_leaf form.List label (decimal (count f))) (mark form.ListEnd label) (opens_list label (decimal (count f)))
      (closes_list label)
      (elements_blocks tells row f r small number))

  list_told : (f g : Forest) → AreRight f → AreRight g → AreSmall f → AreSmall g → (in_list : Bool) (number another : List ℕ)
      → Tells (λ names. name.text.now ∷ []) (λ names. true) (number ≡ another) (f ≡ g)
      (list_shown false (label_in in_list name) f (forest_shown tells true number f))
      (list_shown false (label_in in_list name) g (forest_shown tells true another g))
  list_told f g r w small little in_list number another =
      let label = label_in in_list name in
      tells_enclosed name.text.now IsList (token_leaf form.List label (decimal (count f))) (mark form.ListEnd label)
      (token_leaf form.List label (decimal (count g))) (mark form.ListEnd label) named
      (opens_list label (decimal (count f))) (closes_list label) (opens_list label (decimal (count g))) (closes_list label)
      (elements_told tells row f g r w small little number another) (apart_none (names_of fs))

  -- as a text
  as_text : (f : Forest) (in_list : Bool) (number : List ℕ) → Firsts (openings (of_leaf ∷ []) name.text.now)
      (list_shown true (label_in in_list name) f (forest_shown tells true number f))
  as_text f in_list number =
      let label = label_in in_list name in
      let text = name_text (components f) in
      one_first named (leaf_heads name.text.now (IsQuotedText text) (name_of label (components f)) (λ s e. (quoted style.Quoted text, e)) (name_line label (components f)))

  text_told : (f g : Forest) → AreRight f → AreRight g → is_of_name f ≡ true → is_of_name g ≡ true → is_named ≡ true
      → (in_list : Bool) (number another : List ℕ)
      → Tells (λ names. name.text.now ∷ []) (λ names. true) (number ≡ another) (f ≡ g)
      (list_shown true (label_in in_list name) f (forest_shown tells true number f))
      (list_shown true (label_in in_list name) g (forest_shown tells true another g))
  text_told none g r w e h of_name in_list number another = absurd (cc)
  text_told (node kind called tag inside rest) g r w e h of_name in_list number another = absurd (cc)
  text_told (leaf kind called tag content rest) none r w e h of_name in_list number another = absurd (cc)
  text_told (leaf kind called tag content rest) (node kind_too called_too tag_too inside rest_too) r w e h of_name in_list number another = absurd (cc)
  text_told (leaf kind called tag content rest) (leaf kind_too called_too tag_too content_too rest_too) r w e h of_name in_list number another =
      let t = component_tag (slice_get schema.shapes.now is) of_name in
      let f = leaf kind called tag content rest in
      let g = leaf kind_too called_too tag_too content_too rest_too in
      let p = are_components levels schema is name t.0 f t.1 r in
      let q = are_components levels schema is name t.0 g t.1 w in
      tells_so (λ k. tt)
      (λ same. p.whole ∙ ap (in_a_row name t.0) (one_components content content_too (components rest) (components rest_too) same) ∙ sym q.whole)
      (tells_names (label_in in_list name) (components f) (components g) named
      (text_ascii content (components rest) p.ascii) (text_ascii content_too (components rest_too) q.ascii))

  -- ---- either

  first_by : (c b : Bool) (f : Forest) → AreRight f → AreSmall f → (b ≡ true → c ≡ true) → (in_list : Bool) (number : List ℕ)
      → Firsts (list_firsts c name.text.now) (list_shown b (label_in in_list name) f (forest_shown tells true number f))
  first_by true true f r small e in_list number = record { first = λ old new s. inr ((as_text f in_list number).first old new s) }
  first_by true false f r small e in_list number = record { first = λ old new s. to_either ((as_list f r small in_list number).first old new s) }
    where
      to_either : {old new : List Token} → BeginsAs (openings (of_list ∷ []) name.text.now) old new
          → BeginsAs (openings (of_list ∷ of_leaf ∷ []) name.text.now) old new
      to_either (inl h) = inl h
      to_either (inr h) = absurd h
  first_by false true f r small e in_list number = absurd (no_test (e refl))
    where
      no_test : false ≡ true → ⊥
      no_test h = cc
  first_by false false f r small e in_list number = as_list f r small in_list number

  pub list_first : (f : Forest) → AreRight f → AreSmall f → (in_list : Bool) (number : List ℕ)
      → Firsts (list_firsts is_named name.text.now) (list_shown (is_of_name f) (label_in in_list name) f (forest_shown tells true number f))
  list_first f r small in_list number = first_by is_named (is_of_name f) f r small (elements_name levels schema is name f r) in_list number

  told_by : (a b : Bool) (f g : Forest) → is_of_name f ≡ a → is_of_name g ≡ b → AreRight f → AreRight g → AreSmall f → AreSmall g
      → (in_list : Bool) (number another : List ℕ)
      → Firsts (list_firsts is_named name.text.now) (list_shown a (label_in in_list name) f (forest_shown tells true number f))
      → Firsts (list_firsts is_named name.text.now) (list_shown b (label_in in_list name) g (forest_shown tells true another g))
      → Tells (λ names. names_of (list_firsts is_named name.text.now)) (λ names. true) (number ≡ another) (f ≡ g)
      (list_shown a (label_in in_list name) f (forest_shown tells true number f)) (list_shown b (label_in in_list name) g (forest_shown tells true another g))
  told_by true true f g e h r w small little in_list number another left right =
      tells_from (firsts_block left) (firsts_block right) (text_told f g r w e h (elements_name levels schema is name f r e) in_list number another)
  told_by true false f g e h r w small little in_list number another left right =
      never_tells left right (λ k. firsts_never refl (as_text f in_list number) (as_list g w little in_list another))
  told_by false true f g e h r w small little in_list number another left right =
      never_tells left right (λ k. firsts_never refl (as_list f r small in_list number) (as_text g in_list another))
  told_by false false f g e h r w small little in_list number another left right =
      tells_from (firsts_block left) (firsts_block right) (list_told f g r w small little in_list number another)

  pub either_told : (f g : Forest) → AreRight f → AreRight g → AreSmall f → AreSmall g → (in_list : Bool) (number another : List ℕ)
      → Tells (λ names. names_of (list_firsts is_named name.text.now)) (λ names. true) (number ≡ another) (f ≡ g)
      (list_shown (is_of_name f) (label_in in_list name) f (forest_shown tells true number f))
      (list_shown (is_of_name g) (label_in in_list name) g (forest_shown tells true another g))
  either_told f g r w small little in_list number another =
      told_by (is_of_name f) (is_of_name g) f g refl refl r w small little in_list number another (list_first f r small in_list number)
      (list_first g w little in_list another)
