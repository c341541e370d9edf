-- Faults and walks of parts make those of the whole.
use Rattle.std.proofs.Common.{Bool, Option, ◌≡◌, ℕ, ◌+◌, ◌-◌, refl, sym, ap, ◌∙◌, subst, List, [], ◌∷◌, ◌++◌, length, take, true, false, arith, Result, Ok, Err, inl, inr}
use Rattle.std.specs.Prelude.{IfErr}
use Rattle.std.proofs.lemmas.List.{length-append, take_at}
use Rattle.krb_der_core.specs.Tlv.{tlv}
use Rattle.krb_der_core.specs.declared.error.Asn1DerError.TheVariants as errors
use Rattle.krb_schema.specs.declared.item.Fault.{Fault}
use Rattle.krb_schema.specs.declared.item.Fault.TheVariants as faults
use Rattle.krb_schema.specs.declared.item.Form.TheVariants as form
use Rattle.krb_schema.specs.declared.item.Item.{Item}
use Rattle.krb_schema.specs.declared.item.Node.{Node}
use Rattle.krb_schema.specs.declared.item.Node.TheVariants as nodes
use Rattle.krb_schema.specs.declared.shape.Name.{Name}
use Rattle.krb_schema.specs.declared.shape.Field.{Field}
use Rattle.krb_schema.specs.declared.shape.Leaf.{Leaf}
use Rattle.krb_schema.specs.declared.shape.Leaf.TheVariants as leaves
use Rattle.krb_schema.specs.declared.shape.Schema.{Schema}
use Rattle.krb_schema.specs.declared.shape.Shape.{Shape}
use Rattle.krb_schema.specs.declared.shape.Shape.TheVariants as shapes
use Rattle.krb_schema.specs.declared.walk.Head.{Head}
use Rattle.krb_schema.specs.Forests.{Forest, none, node, enc, item}
use Rattle.krb_schema.specs.Leaves.{IsLeaf}
use Rattle.krb_schema.specs.Shapes.{AreElements, AreFields, Begins, IsRange, IsShaped, is_first, list_node, part, tag_of}
use Rattle.krb_schema.specs.Faults.{HasElement, IsFieldsFault, IsHeaderFault, IsWholeFault, OrMemory, in_bare, in_element, in_tag, left_over, some_over, in_wrapped, behind_wrapped, behind_bare}
use Rattle.krb_schema.specs.Walks.{IsHead, Walked, WalkedFront}
use Rattle.krb_schema.proofs.Beginnings.{tlv_begins}
use Rattle.krb_schema.proofs.Walking.{any_shaped, leaf_shaped, node_headed, tlv_size}

pub has_begins : (tag : Option ℕ) (octets : List ℕ) → HasElement tag octets → Begins tag octets
has_begins tag octets h = tlv_begins tag h.0 octets h.1 h.2 h.3 h.4

-- ---- faults

pub on_memory : (P Q : Fault → Type 0) (fault : Fault) → ((d : Fault) → P d → Q d) → OrMemory P fault → OrMemory Q fault
on_memory P Q fault to_Q (inl e) = inl e
on_memory P Q fault to_Q (inr f) = inr (to_Q fault f)

pub on_fault : {A : Type 0} (r : Result A Fault) (P Q : Fault → Type 0) → ((d : Fault) → P d → Q d) → IfErr r (OrMemory P) → IfErr r (OrMemory Q)
on_fault (Ok v) P Q to_Q h = h
on_fault (Err e) P Q to_Q h = on_memory P Q e to_Q h

pub ended_fault : {A : Type 0} (R : ℕ → Name → List ℕ → Forest → Type 0) (F : ℕ → Name → List ℕ → ℕ → List ℕ → Fault → Type 0) (fields : List Field) (before : List ℕ) (at : ℕ)
    (octets : List ℕ) (r : Result A Fault) → fields ≡ [] → IfErr r (λ fault. octets ≡ [] → ⊥) → IfErr r (λ fault. fault ≡ faults.Refused errors.InvalidData at)
    → IfErr r (OrMemory (IsFieldsFault R F fields before at octets))
ended_fault R F fields before at octets (Ok v) none_left some is = tt
ended_fault R F fields before at octets (Err e) none_left some is =
    inr (subst (IsFieldsFault R F fields before at octets) (sym is)
    (subst (λ (fs : List Field). IsFieldsFault R F fs before at octets (faults.Refused errors.InvalidData at)) (sym none_left) (some_over before at octets some)))

pub whole_fault : {A : Type 0} (R : Forest → Type 0) (F : ℕ → List ℕ → Fault → Type 0) (depth at : ℕ) (octets rest : List ℕ) (old new : List Item) (r : Result A Fault)
    → WalkedFront R octets rest depth at old new → IfErr r (λ fault. rest ≡ [] → ⊥)
    → IfErr r (λ fault. fault ≡ faults.Refused errors.InvalidData (at + (length octets - length rest)))
    → IfErr r (OrMemory (IsWholeFault R F at octets))
whole_fault R F depth at octets rest old new (Ok v) w some is = tt
whole_fault R F depth at octets rest old new (Err e) w some is =
    let f = w.2.0 in
    let place : at + length (enc f) ≡ at + (length octets - length rest) =
    omega (arith, ap (λ (l : List ℕ). length l) w.1, length-append w.0 rest, ap (λ (l : List ℕ). length l) w.2.2) in
    inr (subst (IsWholeFault R F at octets) (ap (λ (n : ℕ). faults.Refused errors.InvalidData n) place ∙ sym is)
    (left_over f rest w.2.1 (w.1 ∙ ap (λ (l : List ℕ). l ++ rest) w.2.2) some))

pub bare_fault : (R : ℕ → Name → List ℕ → Forest → Type 0) (F : ℕ → Name → List ℕ → ℕ → List ℕ → Fault → Type 0) (field : Field) (fields : List Field) (before : List ℕ)
    (depth at taken : ℕ) (octets element rest : List ℕ) (old now : List Item) (fault : Fault)
    → field.wrapped ≡ false → Begins field.tag octets → taken ≡ length octets - length rest → element ≡ take taken octets
    → WalkedFront (R field.is field.name before) octets rest depth at old now → IsFieldsFault R F fields element (at + taken) rest fault
    → IsFieldsFault R F (field ∷ fields) before at octets fault
bare_fault R F field fields before depth at taken octets element rest old now fault is_bare begins is_taken is_element w f =
    let e = w.2.0 in
    let count : taken ≡ length w.0 = omega (arith, is_taken, ap (λ (l : List ℕ). length l) w.1, length-append w.0 rest) in
    let same : element ≡ enc e = is_element ∙ ap (λ (o : List ℕ). take taken o) w.1 ∙ take_at w.0 rest taken (sym count) ∙ w.2.2 in
    behind_bare field fields before at octets rest e fault is_bare begins (w.1 ∙ ap (λ (l : List ℕ). l ++ rest) w.2.2) w.2.1
    (subst (λ (n : ℕ). IsFieldsFault R F fields (enc e) (at + n) rest fault) (count ∙ ap (λ (l : List ℕ). length l) w.2.2)
    (subst (λ (b : List ℕ). IsFieldsFault R F fields b (at + taken) rest fault) same f))

pub element_fault : (R : ℕ → Name → List ℕ → Forest → Type 0) (F : ℕ → Name → List ℕ → ℕ → List ℕ → Fault → Type 0) (field : Field) (fields : List Field) (before : List ℕ)
    (at : ℕ) (octets : List ℕ) (fault : Fault) → field.wrapped ≡ false → HasElement field.tag octets → F field.is field.name before at octets fault
    → IsFieldsFault R F (field ∷ fields) before at octets fault
element_fault R F field fields before at octets fault is_bare begins f = in_bare field fields before at octets fault is_bare begins f

pub tag_fault : (R : ℕ → Name → List ℕ → Forest → Type 0) (F : ℕ → Name → List ℕ → ℕ → List ℕ → Fault → Type 0) (field : Field) (more fields : List Field) (before : List ℕ)
    (at : ℕ) (octets : List ℕ) (fault : Fault) → fields ≡ field ∷ more → (field.optional ≡ true → Begins field.tag octets) → IsHeaderFault field.tag at octets fault
    → OrMemory (IsFieldsFault R F fields before at octets) fault
tag_fault R F field more fields before at octets fault all there f =
    inr (subst (λ (fs : List Field). IsFieldsFault R F fs before at octets fault) (sym all) (in_tag field more before at octets fault there f))

pub within_fault : (R : Forest → Type 0) (F : ℕ → List ℕ → Fault → Type 0) (at : ℕ) (octets : List ℕ) (fault : Fault) → F at octets fault → IsWholeFault R F at octets fault
within_fault R F at octets fault f = in_element fault f

pub inside_fault : (R : ℕ → Name → List ℕ → Forest → Type 0) (F : ℕ → Name → List ℕ → ℕ → List ℕ → Fault → Type 0) (field : Field) (fields : List Field) (before : List ℕ)
    (head : Head) (content rest : List ℕ) (fault : Fault) → field.wrapped ≡ true → is_first field.tag head.tag ≡ true → IsHead head content
    → IsWholeFault (R field.is field.name before) (F field.is field.name before) (head.at + head.header) content fault
    → IsFieldsFault R F (field ∷ fields) before head.at (tlv head.tag content ++ rest) fault
inside_fault R F field fields before head content rest fault is_wrapped first h f =
    in_wrapped field fields before head.at head.tag (tlv head.tag content ++ rest) content rest fault is_wrapped first refl
    (subst (λ (n : ℕ). IsWholeFault (R field.is field.name before) (F field.is field.name before) (head.at + n) content fault) h.header f)

pub wrapped_fault : (R : ℕ → Name → List ℕ → Forest → Type 0) (F : ℕ → Name → List ℕ → ℕ → List ℕ → Fault → Type 0) (field : Field) (fields : List Field) (before : List ℕ)
    (head : Head) (content rest : List ℕ) (depth place : ℕ) (old now : List Item) (fault : Fault) → field.wrapped ≡ true → is_first field.tag head.tag ≡ true → IsHead head content
    → Walked (R field.is field.name before) content depth place old now
    → IsFieldsFault R F fields content (head.at + head.header + length content) rest fault
    → IsFieldsFault R F (field ∷ fields) before head.at (tlv head.tag content ++ rest) fault
wrapped_fault R F field fields before head content rest depth place old now fault is_wrapped first h w f =
    let behind : head.at + head.header + length content ≡ head.at + length (tlv head.tag content) = omega (arith, h.header, tlv_size head.tag content) in
    behind_wrapped field fields before head.at head.tag (tlv head.tag content ++ rest) rest w.0 fault is_wrapped first
    (ap (λ (c : List ℕ). tlv head.tag c ++ rest) w.2) w.1
    (subst (λ (c : List ℕ). IsFieldsFault R F fields c (head.at + length (tlv head.tag c)) rest fault) w.2
    (subst (λ (n : ℕ). IsFieldsFault R F fields content n rest fault) behind f))

-- ---- walks of shapes that are told by an equation

tagged_so : (shape target : Shape) (t : ℕ) → shape ≡ target → is_first (tag_of shape) t ≡ true → is_first (tag_of target) t ≡ true
tagged_so shape target t is first = subst (λ (s : Shape). is_first (tag_of s) t ≡ true) is first

of_shape : (R : ℕ → Name → List ℕ → Forest → Type 0) (schema : Schema) (shape target : Shape) (name : Name) (before octets : List ℕ) (depth at : ℕ) (old new : List Item)
    → shape ≡ target → Walked (IsShaped R schema target name before) octets depth at old new → Walked (IsShaped R schema shape name before) octets depth at old new
of_shape R schema shape target name before octets depth at old new is w =
    subst (λ (s : Shape). Walked (IsShaped R schema s name before) octets depth at old new) (sym is) w

pub leaf_at : (R : ℕ → Name → List ℕ → Forest → Type 0) (schema : Schema) (shape : Shape) (tag : ℕ) (kind : Leaf) (before : List ℕ) (head : Head) (content : List ℕ) (old new : List Item)
    → shape ≡ shapes.Leaf tag kind → is_first (tag_of shape) head.tag ≡ true → IsLeaf kind content
    → new ≡ old ++ item (form.Leaf kind) head.name head.depth head.tag head.at (length content) ∷ []
    → Walked (IsShaped R schema shape head.name before) (tlv head.tag content) head.depth head.at old new
leaf_at R schema shape tag kind before head content old new is first right told =
    of_shape R schema shape (shapes.Leaf tag kind) head.name before (tlv head.tag content) head.depth head.at old new is
    (leaf_shaped R schema tag kind before head content old new (tagged_so shape (shapes.Leaf tag kind) head.tag is first) right told)

pub any_at : (R : ℕ → Name → List ℕ → Forest → Type 0) (schema : Schema) (shape : Shape) (before : List ℕ) (head : Head) (content : List ℕ) (old new : List Item)
    → shape ≡ shapes.Any → is_first (tag_of shape) head.tag ≡ true
    → new ≡ old ++ item (form.Leaf leaves.Any) head.name head.depth head.tag head.at (length content) ∷ []
    → Walked (IsShaped R schema shape head.name before) (tlv head.tag content) head.depth head.at old new
any_at R schema shape before head content old new is first told =
    of_shape R schema shape shapes.Any head.name before (tlv head.tag content) head.depth head.at old new is
    (any_shaped R schema before head content old new (tagged_so shape shapes.Any head.tag is first) told)

pub tagged_at : (R : ℕ → Name → List ℕ → Forest → Type 0) (schema : Schema) (shape : Shape) (tag inner : ℕ) (before : List ℕ) (head : Head) (content : List ℕ)
    (old begun within ended : List Item) → shape ≡ shapes.Tagged tag inner → is_first (tag_of shape) head.tag ≡ true → IsHead head content
    → begun ≡ old ++ item (form.Begin nodes.Wrap) head.name head.depth head.tag head.at head.size ∷ []
    → Walked (R inner head.name before) content (head.depth + 1) (head.at + head.header) begun within
    → ended ≡ within ++ item (form.End nodes.Wrap) head.name head.depth head.tag head.at head.size ∷ []
    → Walked (IsShaped R schema shape head.name before) (tlv head.tag content) head.depth head.at old ended
tagged_at R schema shape tag inner before head content old begun within ended is first h e w f =
    of_shape R schema shape (shapes.Tagged tag inner) head.name before (tlv head.tag content) head.depth head.at old ended is
    (node_headed (R inner head.name before) (IsShaped R schema (shapes.Tagged tag inner) head.name before) nodes.Wrap tag head content old begun within ended
    (tagged_so shape (shapes.Tagged tag inner) head.tag is first) h (λ inside r same. (inside, r, refl)) e w f)

pub sequence_at : (R : ℕ → Name → List ℕ → Forest → Type 0) (schema : Schema) (shape : Shape) (tag start count : ℕ) (fields : List Field) (before : List ℕ) (head : Head) (content : List ℕ)
    (old begun within ended : List Item) → shape ≡ shapes.Sequence tag start count → is_first (tag_of shape) head.tag ≡ true → IsHead head content
    → IsRange start count schema.fields.now → fields ≡ part start count schema.fields.now
    → begun ≡ old ++ item (form.Begin nodes.Struct) head.name head.depth head.tag head.at head.size ∷ []
    → Walked (AreFields R fields []) content (head.depth + 1) (head.at + head.header) begun within
    → ended ≡ within ++ item (form.End nodes.Struct) head.name head.depth head.tag head.at head.size ∷ []
    → Walked (IsShaped R schema shape head.name before) (tlv head.tag content) head.depth head.at old ended
sequence_at R schema shape tag start count fields before head content old begun within ended is first h range all e w f =
    of_shape R schema shape (shapes.Sequence tag start count) head.name before (tlv head.tag content) head.depth head.at old ended is
    (node_headed (AreFields R fields []) (IsShaped R schema (shapes.Sequence tag start count) head.name before) nodes.Struct tag head content old begun within ended
    (tagged_so shape (shapes.Sequence tag start count) head.tag is first) h (λ inside r same. (inside, range, subst (λ (fs : List Field). AreFields R fs [] inside) all r, refl)) e w f)

pub row_at : (R : ℕ → Name → List ℕ → Forest → Type 0) (schema : Schema) (shape : Shape) (tag inner : ℕ) (filled : Bool) (list : Node) (before : List ℕ) (head : Head) (content : List ℕ)
    (old begun within ended : List Item) → shape ≡ shapes.SequenceOf tag inner filled → is_first (tag_of shape) head.tag ≡ true → IsHead head content → list ≡ list_node filled
    → begun ≡ old ++ item (form.Begin list) head.name head.depth head.tag head.at head.size ∷ []
    → Walked (AreElements (R inner head.name [])) content (head.depth + 1) (head.at + head.header) begun within
    → ended ≡ within ++ item (form.End list) head.name head.depth head.tag head.at head.size ∷ []
    → Walked (IsShaped R schema shape head.name before) (tlv head.tag content) head.depth head.at old ended
row_at R schema shape tag inner filled list before head content old begun within ended is first h is_list e w f =
    of_shape R schema shape (shapes.SequenceOf tag inner filled) head.name before (tlv head.tag content) head.depth head.at old ended is
    (node_headed (AreElements (R inner head.name [])) (IsShaped R schema (shapes.SequenceOf tag inner filled) head.name before) list tag head content old begun within ended
    (tagged_so shape (shapes.SequenceOf tag inner filled) head.tag is first) h (λ inside r same. (inside, r, ap (λ (n : Node). node n head.name tag inside none) is_list)) e w f)
