-- Forests beside one another, and walks that grow.
use Rattle.std.proofs.Common.{◌≡◌, ℕ, zero, suc, ◌+◌, ◌-◌, ◌<◌, refl, sym, ap, ◌∙◌, subst, List, [], ◌∷◌, ◌++◌, length, take, drop, true, false, arith, Result, Ok, Err}
use Rattle.std.specs.Prelude.{OnOk, Some, ◌==◌}
use Rattle.std.specs.List.{slice_get}
use Rattle.std.proofs.lemmas.Bool.{eqb-true, eq-eqb}
use Rattle.std.proofs.lemmas.List.{append-nil, append_assoc, length-append, length-drop, take_all, take_at}
use Rattle.krb_der_core.specs.Tlv.{header, tlv, len}
use Rattle.krb_schema.specs.declared.shape.Name.{Name}
use Rattle.krb_schema.specs.declared.shape.Leaf.{Leaf}
use Rattle.krb_schema.specs.declared.shape.Field.{Field}
use Rattle.krb_schema.specs.declared.shape.Schema.{Schema}
use Rattle.krb_schema.specs.declared.item.Node.{Node}
use Rattle.krb_schema.specs.declared.item.Node.TheVariants as nodes
use Rattle.krb_schema.specs.declared.item.Form.TheVariants as form
use Rattle.krb_schema.specs.declared.item.Item.{Item}
use Rattle.krb_schema.specs.Forests.{Forest, none, leaf, node, beside, enc, item, items_at}
use Rattle.krb_schema.specs.declared.shape.Case.{Case}
use Rattle.krb_schema.specs.declared.shape.Shape.{Shape}
use Rattle.krb_schema.specs.declared.shape.Shape.TheVariants as shapes
use Rattle.krb_schema.specs.declared.shape.Leaf.TheVariants as leaves
use Rattle.krb_schema.specs.declared.walk.Head.{Head}
use Rattle.krb_der_x509.specs.RawValue.{is_raw_first}
use Rattle.krb_schema.specs.Leaves.{IsLeaf}
use Rattle.krb_schema.specs.Shapes.{Applies, AreElements, AreFields, Begins, IsElement, IsHeld, IsNone, IsShaped, called, is_first, wrapped, bare, no_fields, absent, one_more, no_elements, here, later, plain}
use Rattle.krb_schema.proofs.Beginnings.{begins_before}
use Rattle.krb_schema.specs.Walks.{IsHead, Walked, WalkedFront}

pub on_ok : {A E : Type 0} (r : Result A E) (P Q : Type 0) → (P → Q) → OnOk r P → OnOk r Q
on_ok (Ok v) P Q f h = f h
on_ok (Err e) P Q f h = tt

pub on_both : {A E : Type 0} (r : Result A E) (P Q R : Type 0) → (P → Q → R) → OnOk r P → OnOk r Q → OnOk r R
on_both (Ok v) P Q R f h k = f h k
on_both (Err e) P Q R f h k = tt

pub is_empty : {A : Type 0} (xs : List A) → length xs ≡ 0 → xs ≡ []
is_empty [] e = refl
is_empty (x ∷ xs) e = absurd (cc)

pub all_behind : (octets : List ℕ) (n : ℕ) → take (length octets - n) (drop n octets) ≡ drop n octets
all_behind octets n = take_all (length octets - n) (drop n octets) (omega (arith, length-drop n octets))

-- how many octets an element has before its content
pub header_size : (tag taken : ℕ) (content : List ℕ) → taken ≡ length (tlv tag content) → taken ≡ length (header tag (length content)) + length content
unfolding tlv
header_size tag taken content e = e ∙ length-append (tag ∷ len (length content)) content

pub tlv_size : (tag : ℕ) (content : List ℕ) → length (tlv tag content) ≡ length (header tag (length content)) + length content
tlv_size tag content = header_size tag (length (tlv tag content)) content refl

-- ---- one row beside another

pub enc_beside : (f g : Forest) → enc (beside f g) ≡ enc f ++ enc g
enc_beside none g = refl
enc_beside (leaf kind name tag content rest) g = ap (λ o. tlv tag content ++ o) (enc_beside rest g) ∙ sym (append_assoc (tlv tag content) (enc rest) (enc g))
enc_beside (node kind name tag inside rest) g = ap (λ o. tlv tag (enc inside) ++ o) (enc_beside rest g) ∙ sym (append_assoc (tlv tag (enc inside)) (enc rest) (enc g))

pub beside_none : (f : Forest) → beside f none ≡ f
beside_none none = refl
beside_none (leaf kind name tag content rest) = ap (λ (r : Forest). leaf kind name tag content r) (beside_none rest)
beside_none (node kind name tag inside rest) = ap (λ (r : Forest). node kind name tag inside r) (beside_none rest)

pub beside_assoc : (f g h : Forest) → beside (beside f g) h ≡ beside f (beside g h)
beside_assoc none g h = refl
beside_assoc (leaf kind name tag content rest) g h = ap (λ (r : Forest). leaf kind name tag content r) (beside_assoc rest g h)
beside_assoc (node kind name tag inside rest) g h = ap (λ (r : Forest). node kind name tag inside r) (beside_assoc rest g h)

elements_beside : (R : Forest → Type 0) (f g : Forest) → AreElements R f → AreElements R g → AreElements R (beside f g)
elements_beside R f g no_elements r = r
elements_beside R f g (one_more element others q qs) r =
    subst (AreElements R) (sym (beside_assoc element others g)) (one_more element (beside others g) q (elements_beside R others g qs r))

pub one_behind : (R : Forest → Type 0) (f last : Forest) → AreElements R f → R last → AreElements R (beside f last)
one_behind R f last r q =
    subst (λ (g : Forest). AreElements R (beside f g)) (beside_none last) (elements_beside R f (beside last none) r (one_more last none q no_elements))

further : (depth at m n k : ℕ) (g : Forest) → k ≡ m + n → items_at depth (at + m + n) g ≡ items_at depth (at + k) g
further depth at m n k g e = ap (λ p. items_at depth p g) (omega (arith, e))

pub items_beside : (depth at : ℕ) (f g : Forest) → items_at depth at (beside f g) ≡ items_at depth at f ++ items_at depth (at + length (enc f)) g
items_beside depth at none g = ap (λ p. items_at depth p g) (omega arith)
items_beside depth at (leaf kind name tag content rest) g =
    let m = length (tlv tag content) in
    ap (λ l. item (form.Leaf kind) name depth tag at (length content) ∷ l)
    (items_beside depth (at + m) rest g ∙ ap (λ l. items_at depth (at + m) rest ++ l) (further depth at m (length (enc rest)) (length (tlv tag content ++ enc rest)) g (length-append (tlv tag content) (enc rest))))
items_beside depth at (node kind name tag inside rest) g =
    let m = length (tlv tag (enc inside)) in
    let begin = item (form.Begin kind) name depth tag at (length (enc inside)) in
    let end = item (form.End kind) name depth tag at (length (enc inside)) in
    let within = items_at (depth + 1) (at + length (header tag (length (enc inside)))) inside in
    let behind = items_at depth (at + m) rest in
    let last = items_at depth (at + length (tlv tag (enc inside) ++ enc rest)) g in
    ap (λ l. begin ∷ (within ++ end ∷ l))
    (items_beside depth (at + m) rest g ∙ ap (λ l. behind ++ l) (further depth at m (length (enc rest)) (length (tlv tag (enc inside) ++ enc rest)) g (length-append (tlv tag (enc inside)) (enc rest))))
    ∙ ap (λ l. begin ∷ l) (sym (append_assoc within (end ∷ behind) last))

-- ---- walks

-- an element of elements, appended one after another
pub node_walked : (R S : Forest → Type 0) (kind : Node) (name : Name) (tag depth at : ℕ) (content : List ℕ) (old begun within ended : List Item)
    → ((inside : Forest) → R inside → S (node kind name tag inside none))
    → begun ≡ old ++ item (form.Begin kind) name depth tag at (length content) ∷ []
    → Walked R content (depth + 1) (at + length (header tag (length content))) begun within
    → ended ≡ within ++ item (form.End kind) name depth tag at (length content) ∷ []
    → Walked S (tlv tag content) depth at old ended
node_walked R S kind name tag depth at content old begun within ended to_S e w f =
    let begin = item (form.Begin kind) name depth tag at (length content) in
    let end = item (form.End kind) name depth tag at (length content) in
    let inner = items_at (depth + 1) (at + length (header tag (length content))) w.0 in
    let whole : ended ≡ old ++ (begin ∷ (inner ++ end ∷ [])) =
    f ∙ ap (λ l. l ++ end ∷ []) (w.3 ∙ ap (λ l. l ++ inner) e) ∙ append_assoc (old ++ begin ∷ []) inner (end ∷ []) ∙ append_assoc old (begin ∷ []) (inner ++ end ∷ []) in (
      node kind name tag w.0 none,
      to_S w.0 w.1,
      ap (λ c. tlv tag c) w.2 ∙ sym (append-nil (tlv tag (enc w.0))),
      subst (λ c. ended ≡ old ++ (item (form.Begin kind) name depth tag at (length c) ∷ (items_at (depth + 1) (at + length (header tag (length c))) w.0 ++ item (form.End kind) name depth tag at (length c) ∷ []))) w.2 whole,
    )

-- a leaf
pub leaf_walked : (S : Forest → Type 0) (kind : Leaf) (name : Name) (tag depth at : ℕ) (content : List ℕ) (old new : List Item)
    → S (leaf kind name tag content none) → new ≡ old ++ item (form.Leaf kind) name depth tag at (length content) ∷ []
    → Walked S (tlv tag content) depth at old new
leaf_walked S kind name tag depth at content old new right e =
    (leaf kind name tag content none, right, sym (append-nil (tlv tag content)), e)

-- rights of one kind are of another
pub walked_as : (R S : Forest → Type 0) (octets : List ℕ) (depth at : ℕ) (old new : List Item) → ((f : Forest) → R f → S f)
    → Walked R octets depth at old new → Walked S octets depth at old new
walked_as R S octets depth at old new to_S w = (w.0, to_S w.0 w.1, w.2, w.3)

-- a field in its tag, and those behind it
pub wrapped_walked : (R : ℕ → Name → List ℕ → Forest → Type 0) (field : Field) (fields : List Field) (before : List ℕ) (tag depth at behind : ℕ) (content rest : List ℕ)
    (old begun within ended new : List Item)
    → field.wrapped ≡ true → is_first field.tag tag ≡ true → behind ≡ at + length (tlv tag content)
    → begun ≡ old ++ item (form.Begin nodes.Wrap) field.name depth tag at (length content) ∷ []
    → Walked (R field.is field.name before) content (depth + 1) (at + length (header tag (length content))) begun within
    → ended ≡ within ++ item (form.End nodes.Wrap) field.name depth tag at (length content) ∷ []
    → Walked (AreFields R fields content) rest depth behind ended new
    → Walked (AreFields R (field ∷ fields) before) (tlv tag content ++ rest) depth at old new
wrapped_walked R field fields before tag depth at behind content rest old begun within ended new is_wrapped is_tag is_behind e w f v =
    let c = w.2 in
    let n = length content in
    let begin = item (form.Begin nodes.Wrap) field.name depth tag at n in
    let end = item (form.End nodes.Wrap) field.name depth tag at n in
    let inner = items_at (depth + 1) (at + length (header tag n)) w.0 in
    let last = items_at depth behind v.0 in
    let whole : new ≡ old ++ (begin ∷ (inner ++ end ∷ last)) =
    v.3 ∙ ap (λ l. l ++ last) (f ∙ ap (λ l. l ++ end ∷ []) (w.3 ∙ ap (λ l. l ++ inner) e))
    ∙ append_assoc ((old ++ begin ∷ []) ++ inner) (end ∷ []) last ∙ append_assoc (old ++ begin ∷ []) inner (end ∷ last) ∙ append_assoc old (begin ∷ []) (inner ++ end ∷ last) in
    let placed : new ≡ old ++ (begin ∷ (inner ++ end ∷ items_at depth (at + length (tlv tag content)) v.0)) =
    whole ∙ ap (λ (p : ℕ). old ++ (begin ∷ (inner ++ end ∷ items_at depth p v.0))) is_behind in (
      node nodes.Wrap field.name tag w.0 v.0,
      wrapped field fields before tag w.0 v.0 is_wrapped is_tag w.1 (subst (λ b. AreFields R fields b v.0) c v.1),
      ap (λ l. tlv tag content ++ l) v.2 ∙ ap (λ l. tlv tag l ++ enc v.0) c,
      subst (λ b. new ≡ old ++ (item (form.Begin nodes.Wrap) field.name depth tag at (length b)
          ∷ (items_at (depth + 1) (at + length (header tag (length b))) w.0
          ++ item (form.End nodes.Wrap) field.name depth tag at (length b) ∷ items_at depth (at + length (tlv tag b)) v.0))) c placed,
    )

-- a field that stands by itself, and those behind it
pub bare_walked : (R : ℕ → Name → List ℕ → Forest → Type 0) (field : Field) (fields : List Field) (before : List ℕ) (depth at taken : ℕ) (octets element rest : List ℕ)
    (old now new : List Item)
    → field.wrapped ≡ false → Begins field.tag octets → 0 < taken → taken ≡ length octets - length rest → element ≡ take taken octets
    → WalkedFront (R field.is field.name before) octets rest depth at old now
    → Walked (AreFields R fields element) rest depth (at + taken) now new
    → Walked (AreFields R (field ∷ fields) before) octets depth at old new
bare_walked R field fields before depth at taken octets element rest old now new is_bare begins some is_taken is_element w v =
    let front = w.0 in
    let f = w.2.0 in
    let count : taken ≡ length front = omega (arith, is_taken, ap (λ (l : List ℕ). length l) w.1, length-append front rest) in
    let same : element ≡ enc f = is_element ∙ ap (λ (o : List ℕ). take taken o) w.1 ∙ take_at front rest taken (sym count) ∙ w.2.2 in
    let there : Begins field.tag (enc f) = begins_before field.tag octets (enc f) rest (w.1 ∙ ap (λ (l : List ℕ). l ++ rest) w.2.2) begins (omega (arith, some, count, ap (λ (l : List ℕ). length l) w.2.2)) in (
      beside f v.0,
      bare field fields before f v.0 is_bare there w.2.1 (subst (λ b. AreFields R fields b v.0) same v.1),
      w.1 ∙ ap (λ l. l ++ rest) w.2.2 ∙ ap (λ l. enc f ++ l) v.2 ∙ sym (enc_beside f v.0),
      v.3 ∙ ap (λ l. l ++ items_at depth (at + taken) v.0) w.2.3 ∙ append_assoc old (items_at depth at f) (items_at depth (at + taken) v.0)
          ∙ ap (λ l. old ++ l) (ap (λ (p : ℕ). items_at depth at f ++ items_at depth (at + p) v.0) (count ∙ ap (λ (l : List ℕ). length l) w.2.2) ∙ sym (items_beside depth at f v.0)),
    )

-- one more element of a row
pub more_walked : (R : Forest → Type 0) (depth at place : ℕ) (octets done rest behind : List ℕ) (old now new : List Item)
    → octets ≡ done ++ rest → place ≡ at + length done → Walked (AreElements R) done depth at old now
    → WalkedFront R rest behind depth place now new
    → (longer : List ℕ) × (octets ≡ longer ++ behind) × (at + length longer ≡ place + (length rest - length behind)) × Walked (AreElements R) longer depth at old new
more_walked R depth at place octets done rest behind old now new e p w v =
    let front = v.0 in
    let last = v.2.0 in (
      done ++ front,
      e ∙ ap (λ l. done ++ l) v.1 ∙ sym (append_assoc done front behind),
      omega (arith, p, length-append done front, ap (λ (l : List ℕ). length l) v.1, length-append front behind),
      (
        beside w.0 last,
        one_behind R w.0 last w.1 v.2.1,
        ap (λ l. done ++ l) v.2.2 ∙ ap (λ l. l ++ enc last) w.2 ∙ sym (enc_beside w.0 last),
        v.2.3 ∙ ap (λ l. l ++ items_at depth place last) w.3 ∙ append_assoc old (items_at depth at w.0) (items_at depth place last)
            ∙ ap (λ l. old ++ l) (ap (λ (q : ℕ). items_at depth at w.0 ++ items_at depth q last) (p ∙ ap (λ (l : List ℕ). at + length l) w.2) ∙ sym (items_beside depth at w.0 last)),
      ),
    )

-- ---- by shapes

-- a leaf of this shape
pub leaf_shaped : (R : ℕ → Name → List ℕ → Forest → Type 0) (schema : Schema) (tag : ℕ) (kind : Leaf) (before : List ℕ) (head : Head) (content : List ℕ) (old new : List Item)
    → (head.tag == tag) ≡ true → IsLeaf kind content
    → new ≡ old ++ item (form.Leaf kind) head.name head.depth head.tag head.at (length content) ∷ []
    → Walked (IsShaped R schema (shapes.Leaf tag kind) head.name before) (tlv head.tag content) head.depth head.at old new
leaf_shaped R schema tag kind before head content old new t right told =
    leaf_walked (IsShaped R schema (shapes.Leaf tag kind) head.name before) kind head.name head.tag head.depth head.at content old new
    (content, right, ap (λ (n : ℕ). leaf kind head.name n content none) (eqb-true head.tag tag t)) told

-- any element
pub any_shaped : (R : ℕ → Name → List ℕ → Forest → Type 0) (schema : Schema) (before : List ℕ) (head : Head) (content : List ℕ) (old new : List Item)
    → is_raw_first head.tag ≡ true
    → new ≡ old ++ item (form.Leaf leaves.Any) head.name head.depth head.tag head.at (length content) ∷ []
    → Walked (IsShaped R schema shapes.Any head.name before) (tlv head.tag content) head.depth head.at old new
any_shaped R schema before head content old new t told =
    leaf_walked (IsShaped R schema shapes.Any head.name before) leaves.Any head.name head.tag head.depth head.at content old new
    (head.tag, content, t, refl) told

-- an element of elements behind its head
pub node_headed : (R S : Forest → Type 0) (kind : Node) (tag : ℕ) (head : Head) (content : List ℕ) (old begun within ended : List Item)
    → (head.tag == tag) ≡ true → IsHead head content → ((inside : Forest) → R inside → content ≡ enc inside → S (node kind head.name tag inside none))
    → begun ≡ old ++ item (form.Begin kind) head.name head.depth head.tag head.at head.size ∷ []
    → Walked R content (head.depth + 1) (head.at + head.header) begun within
    → ended ≡ within ++ item (form.End kind) head.name head.depth head.tag head.at head.size ∷ []
    → Walked S (tlv head.tag content) head.depth head.at old ended
node_headed R S kind tag head content old begun within ended t h to_S e w f =
    node_walked (λ inside. R inside × (content ≡ enc inside)) S kind head.name head.tag head.depth head.at content old begun within ended
    (λ inside r. subst (λ (n : ℕ). S (node kind head.name n inside none)) (sym (eqb-true head.tag tag t)) (to_S inside r.0 r.1))
    (e ∙ ap (λ (n : ℕ). old ++ item (form.Begin kind) head.name head.depth head.tag head.at n ∷ []) h.size)
    (subst (λ (n : ℕ). Walked (λ inside. R inside × (content ≡ enc inside)) content (head.depth + 1) (head.at + n) begun within) h.header (w.0, (w.1, w.2), w.2, w.3))
    (f ∙ ap (λ (n : ℕ). within ++ item (form.End kind) head.name head.depth head.tag head.at n ∷ []) h.size)

-- an element of a row of the schema, and what stands behind it
pub element_walked : (levels : ℕ) (schema : Schema) (is : ℕ) (shape : Shape) (name : Name) (before : List ℕ) (depth at tag : ℕ) (octets content rest : List ℕ) (old new : List Item)
    → (levels ≡ 0 → ⊥) → slice_get schema.shapes.now is ≡ Some shape → octets ≡ tlv tag content ++ rest
    → Walked (IsShaped (IsElement (levels - 1) schema) schema shape name before) (tlv tag content) depth at old new
    → WalkedFront (IsElement levels schema is name before) octets rest depth at old new
element_walked zero schema is shape name before depth at tag octets content rest old new some row e w = absurd (some refl)
element_walked (suc levels) schema is shape name before depth at tag octets content rest old new some row e w =
    let v : Walked (IsShaped (IsElement levels schema) schema shape name before) (tlv tag content) depth at old new =
    subst (λ (n : ℕ). Walked (IsShaped (IsElement n schema) schema shape name before) (tlv tag content) depth at old new) (omega arith) w in
    (tlv tag content, e, (v.0, (shape, row, v.1), v.2, v.3))

-- all of the octets are the element's
pub whole_walked : (R : Forest → Type 0) (octets rest : List ℕ) (depth at : ℕ) (old new : List Item) → rest ≡ [] → WalkedFront R octets rest depth at old new
    → Walked R octets depth at old new
whole_walked R octets rest depth at old new none_left w =
    let f : octets ≡ w.0 = w.1 ∙ ap (λ (l : List ℕ). w.0 ++ l) none_left ∙ append-nil w.0 in
    subst (λ (o : List ℕ). Walked R o depth at old new) (sym f) w.2

-- ---- fields

pub fields_ended : (R : ℕ → Name → List ℕ → Forest → Type 0) (before : List ℕ) (depth at : ℕ) (octets : List ℕ) (old : List Item) → octets ≡ []
    → Walked (AreFields R [] before) octets depth at old old
fields_ended R before depth at octets old e = (none, no_fields before, e, sym (append-nil old))

pub field_absent : (R : ℕ → Name → List ℕ → Forest → Type 0) (field : Field) (fields : List Field) (before : List ℕ) (depth at : ℕ) (octets : List ℕ) (old new : List Item)
    → field.optional ≡ true → (Begins field.tag octets → ⊥) → Walked (AreFields R fields before) octets depth at old new
    → Walked (AreFields R (field ∷ fields) before) octets depth at old new
field_absent R field fields before depth at octets old new may other w =
    (w.0, absent field fields before w.0 may (subst (λ (o : List ℕ). Begins field.tag o → ⊥) w.2 other) w.1, w.2, w.3)

-- ---- what an OCTET STRING holds

pub held_plain : (R : ℕ → Name → List ℕ → Forest → Type 0) (name : Name) (before content : List ℕ) (tag depth at : ℕ) (old new : List Item)
    → tag ≡ 4 → new ≡ old ++ item (form.Leaf leaves.Octets) name depth tag at (length content) ∷ []
    → Walked (IsHeld R name before content []) (tlv tag content) depth at old new
held_plain R name before content tag depth at old new t e =
    leaf_walked (IsHeld R name before content []) leaves.Octets name tag depth at content old new
    (subst (λ (n : ℕ). IsHeld R name before content [] (leaf leaves.Octets name n content none)) (sym t) plain) e

pub held_later : (R : ℕ → Name → List ℕ → Forest → Type 0) (name : Name) (before content : List ℕ) (case : Case) (cases : List Case) (octets : List ℕ) (depth at : ℕ) (old new : List Item)
    → (Applies case before → IsNone (R case.is (called case name) []) content)
    → Walked (IsHeld R name before content cases) octets depth at old new
    → Walked (IsHeld R name before content (case ∷ cases)) octets depth at old new
held_later R name before content case cases octets depth at old new lacks w = (w.0, later case cases w.0 lacks w.1, w.2, w.3)

pub held_here : (R : ℕ → Name → List ℕ → Forest → Type 0) (case : Case) (cases : List Case) (before : List ℕ) (head : Head) (content : List ℕ) (inside old begun within ended : List Item)
    → head.tag ≡ 4 → IsHead head content → Applies case before
    → Walked (R case.is (called case head.name) []) content (head.depth + 1) (head.at + head.header) [] inside
    → begun ≡ old ++ item (form.Begin nodes.Wrap) head.name head.depth head.tag head.at head.size ∷ []
    → within ≡ begun ++ inside
    → ended ≡ within ++ item (form.End nodes.Wrap) head.name head.depth head.tag head.at head.size ∷ []
    → Walked (IsHeld R head.name before content (case ∷ cases)) (tlv head.tag content) head.depth head.at old ended
held_here R case cases before head content inside old begun within ended t h applies w e i f =
    node_headed (R case.is (called case head.name) []) (IsHeld R head.name before content (case ∷ cases)) nodes.Wrap 4 head content old begun within ended
    (eq-eqb head.tag 4 t) h (λ element r same. here case cases element applies r same) e
    (w.0, w.1, w.2, i ∙ ap (λ (l : List Item). begun ++ l) w.3) f

-- ---- rows

pub row_begun : (R : Forest → Type 0) (depth at : ℕ) (octets : List ℕ) (old : List Item)
    → (done : List ℕ) × (octets ≡ done ++ octets) × (at ≡ at + length done) × Walked (AreElements R) done depth at old old
row_begun R depth at octets old = ([], refl, omega arith, (none, no_elements, refl, sym (append-nil old)))

pub row_ended : (R : Forest → Type 0) (depth at place : ℕ) (octets rest : List ℕ) (old new : List Item) → length rest ≡ 0
    → (done : List ℕ) × (octets ≡ done ++ rest) × (place ≡ at + length done) × Walked (AreElements R) done depth at old new
    → Walked (AreElements R) octets depth at old new
row_ended R depth at place octets [] old new none_left w = subst (λ (o : List ℕ). Walked (AreElements R) o depth at old new) (sym (w.1 ∙ append-nil w.0)) w.3
row_ended R depth at place octets (x ∷ rest) old new none_left w = absurd (omega (arith, none_left))
