-- Octets with a fault are those of no right elements.
use Rattle.std.proofs.Common.{◌≡◌, ℕ, zero, suc, ◌+◌, ◌<◌, ◌^◌, refl, sym, ap, ◌∙◌, subst, List, [], ◌++◌, length, true, arith, inl, inr, Option, slice_index_or}
use Rattle.std.specs.Prelude.{MatchOption}
use Rattle.std.proofs.lemmas.Bool.{eq-eqb}
use Rattle.std.proofs.lemmas.List.{append-nil, append_assoc, length-append}
use Rattle.krb_der_core.specs.Tlv.{header, tlv}
use Rattle.krb_der_core.specs.TlvLaws.{tlv_apart, tlv_same}
use Rattle.krb_der_core.specs.ErrorLaws.{clash, content_fits, prefix_laws}
use Rattle.krb_der_core.specs.Encoding.{IsElement as IsTlv}
use Rattle.krb_der_core.specs.Errors.{PrefixError, other_tag, in_content}
use Rattle.krb_der_core.specs.declared.error.Asn1DerError.{Asn1DerError}
use Rattle.krb_der_x509.specs.ObjectIdentifierErrors.{arcs_laws}
use Rattle.krb_schema.specs.declared.item.Fault.{Fault}
use Rattle.krb_schema.specs.declared.item.Fault.TheVariants as faults
use Rattle.krb_schema.specs.declared.shape.Name.{Name}
use Rattle.krb_schema.specs.declared.shape.Leaf.{Leaf}
use Rattle.krb_schema.specs.declared.shape.Leaf.TheVariants as leaves
use Rattle.krb_schema.specs.declared.shape.Field.{Field}
use Rattle.krb_schema.specs.declared.shape.Case.{Case}
use Rattle.krb_schema.specs.declared.shape.Schema.{Schema}
use Rattle.krb_schema.specs.declared.shape.Shape.{Shape}
use Rattle.krb_schema.specs.declared.shape.Shape.TheVariants as shapes
use Rattle.krb_schema.specs.Forests.{Forest, none, leaf, enc}
use Rattle.krb_schema.specs.Leaves.{IsLeaf}
use Rattle.krb_schema.specs.Shapes.{AreElements, AreFields, Begins, IsElement, IsHeld, IsNone, IsShaped, is_first, part, tag_of, no_fields, absent, wrapped, bare, no_elements, one_more, here, later, plain}
use Rattle.krb_schema.specs.Faults.{IsContentFault, IsFault, IsFieldsFault, IsLeafFault, IsRowFault, IsShapeFault, IsWholeFault, OrMemory, in_element, left_over, some_over, behind_absent, in_tag, in_wrapped, behind_wrapped, in_bare, behind_bare}
use Rattle.krb_schema.specs.Walks.{NoFront}
use Rattle.krb_schema.proofs.Walking.{enc_beside}
use Rattle.krb_schema.proofs.Beginnings.{begins_behind, tlv_begins}

-- ---- headers

pub no_header : (tag : Option ℕ) (octets : List ℕ) (why : Asn1DerError) → length octets < 2 ^ 64 → PrefixError (is_first tag) (λ t content e. ⊥) octets why
    → (t : ℕ) (content rest : List ℕ) → is_first tag t ≡ true → octets ≡ tlv t content ++ rest → ⊥
no_header tag octets why less f t content rest first e =
    (prefix_laws (IsTlv (is_first tag)) (λ v. v) (is_first tag) (λ v h. h) (λ u c d. ⊥)
    (record { no_value = λ u c d lt g v h q. g; one_error = λ u c d x lt g h. absurd g }) (λ v w h k q. q)).no_value
    octets why less f (tlv t content) rest (record { tag = t; content = content; whole = refl; begins = first }) e tt

-- ---- an element of a row is one element, whose tag is its shape's

pub record IsOne (tag : Option ℕ) (f : Forest) : Type 0 where
  pub t : ℕ
  pub content : List ℕ
  pub begins : is_first tag t ≡ true
  pub whole : enc f ≡ tlv t content

one_leaf : (tag : Option ℕ) (kind : Leaf) (name : Name) (t : ℕ) (content : List ℕ) → is_first tag t ≡ true → IsOne tag (leaf kind name t content none)
one_leaf tag kind name t content first = record { t = t; content = content; begins = first; whole = append-nil (tlv t content) }

pub held_one : (R : ℕ → Name → List ℕ → Forest → Type 0) (name : Name) (before content : List ℕ) (cases : List Case) (f : Forest) → IsHeld R name before content cases f → enc f ≡ tlv 4 content
held_one R name before content cases f (here c cs inside applies r e) = append-nil (tlv 4 (enc inside)) ∙ ap (λ (o : List ℕ). tlv 4 o) (sym e)
held_one R name before content cases f (later c cs element lacks r) = held_one R name before content cs element r
held_one R name before content cases f plain = append-nil (tlv 4 content)

shaped_one : (R : ℕ → Name → List ℕ → Forest → Type 0) (schema : Schema) (shape : Shape) (name : Name) (before : List ℕ) (f : Forest)
    → IsShaped R schema shape name before f → IsOne (tag_of shape) f
shaped_one R schema (shapes.Leaf tag kind) name before f v =
    record { t = tag; content = v.0; begins = eq-eqb tag tag refl; whole = ap enc v.2 ∙ append-nil (tlv tag v.0) }
shaped_one R schema (shapes.Tagged tag is) name before f v =
    record { t = tag; content = enc v.0; begins = eq-eqb tag tag refl; whole = ap enc v.2 ∙ append-nil (tlv tag (enc v.0)) }
shaped_one R schema (shapes.Sequence tag start count) name before f v =
    record { t = tag; content = enc v.0; begins = eq-eqb tag tag refl; whole = ap enc v.3 ∙ append-nil (tlv tag (enc v.0)) }
shaped_one R schema (shapes.SequenceOf tag is filled) name before f v =
    record { t = tag; content = enc v.0; begins = eq-eqb tag tag refl; whole = ap enc v.2 ∙ append-nil (tlv tag (enc v.0)) }
shaped_one R schema (shapes.Holding start count) name before f v =
    record { t = 4; content = v.0; begins = refl; whole = held_one R name before v.0 (part start count schema.cases.now) f v.2 }
shaped_one R schema shapes.Any name before f v =
    record { t = v.0; content = v.1; begins = v.2; whole = ap enc v.3 ∙ append-nil (tlv v.0 v.1) }

pub record IsAnOne (f : Forest) : Type 0 where
  pub tag : ℕ
  pub content : List ℕ
  pub whole : enc f ≡ tlv tag content

pub element_one : (levels : ℕ) (schema : Schema) (is : ℕ) (name : Name) (before : List ℕ) (f : Forest) → IsElement levels schema is name before f → IsAnOne f
element_one zero schema is name before f v = absurd v
element_one (suc levels) schema is name before f v =
    let o = shaped_one (IsElement levels schema) schema v.0 name before f v.2 in
    record { tag = o.t; content = o.content; whole = o.whole }

-- what stands behind one element is one, and the element too
pub record SameOne (f g : Forest) (x y : List ℕ) : Type 0 where
  pub octets : enc f ≡ enc g
  pub rest : x ≡ y

pub same_one : (f g : Forest) (x y : List ℕ) → IsAnOne f → IsAnOne g → enc f ++ x ≡ enc g ++ y → SameOne f g x y
same_one f g x y a b e =
    let s = tlv_apart a.tag b.tag a.content b.content x y (ap (λ (o : List ℕ). o ++ x) (sym a.whole) ∙ e ∙ ap (λ (o : List ℕ). o ++ y) b.whole) in
    record { octets = a.whole ∙ ap (λ (n : ℕ). tlv n a.content) s.tag ∙ ap (λ (c : List ℕ). tlv b.tag c) s.content ∙ sym b.whole; rest = s.rest }

-- ---- leaves

no_value : {A : Type 0} (is_value : A → Type 0) (content_of : A → List ℕ) (tag : ℕ) (content : List ℕ)
    → ((v : A) → is_value v → tlv tag content ≡ tlv tag (content_of v) → ⊥) → (v : A) × is_value v × (tlv tag content ≡ tlv tag (content_of v)) → ⊥
no_value is_value content_of tag content lacks w = lacks w.0 w.1 w.2

leaf_refused : (kind : Leaf) (at : ℕ) (content : List ℕ) (fault : Fault) → length content < 2 ^ 64 → IsLeafFault kind at content fault → IsLeaf kind content → ⊥
leaf_refused leaves.Integer at content fault less f v = f.1.1 v.0 v.1 v.2
leaf_refused (leaves.Number n) at content fault less f v = f.1.1 v.0 v.1 v.2
leaf_refused leaves.Microseconds at content fault less f v = f.1.1 v.0 v.1 v.2
leaf_refused leaves.Unsigned at content fault less f v = f.1.1 v.0 v.1 v.2
leaf_refused leaves.Flags at content fault less f v = f.1.1 v.0 v.1 v.2
leaf_refused leaves.Bits at content fault less f v = f.1.1 v.0 v.1 v.2
leaf_refused leaves.Text at content fault less f v = f.1.1 v.0 v.1 v.2
leaf_refused leaves.Component at content fault less f v = f.1.1 v.0 v.1 v.2
leaf_refused leaves.Time at content fault less f v = f.1.1 v.0 v.1 v.2
leaf_refused leaves.Octets at content fault less f v = f
leaf_refused leaves.Secret at content fault less f v = f
leaf_refused leaves.Cipher at content fault less f v = f
leaf_refused leaves.Truth at content fault less f v = f.1.1 v.0 v.1 v.2
leaf_refused leaves.Identifier at content fault less (why, other_tag n, e) v = n refl
leaf_refused leaves.Identifier at content fault less (why, in_content d n f, e) v = arcs_laws.no_value content d less f v.0 v.1 (tlv_same 6 6 content _ v.2)
leaf_refused leaves.Any at content fault less f v = f

-- ---- wholes, rows, fields and contents, where faults of elements refuse

some_tlv : (tag : ℕ) (content : List ℕ) → 0 < length (tlv tag content)
unfolding tlv
some_tlv tag content = omega arith

first_of_one : (tag : Option ℕ) (f : Forest) (o : IsAnOne f) → Begins tag (enc f) → is_first tag o.tag ≡ true
unfolding tlv
first_of_one tag f o b = subst (λ (n : ℕ). is_first tag n ≡ true) (ap (λ (l : List ℕ). slice_index_or l 0 0) (sym b.2 ∙ o.whole)) b.3

inner : (tag u : ℕ) (content other : List ℕ) → tlv tag content ≡ tlv u other ++ [] → content ≡ other
inner tag u content other e = tlv_same tag u content other (e ∙ append-nil (tlv u other))

module _ (R : ℕ → Name → List ℕ → Forest → Type 0) (F : ℕ → Name → List ℕ → ℕ → List ℕ → Fault → Type 0)
    (one : (is : ℕ) (name : Name) (before : List ℕ) (f : Forest) → R is name before f → IsAnOne f)
    (lacks : (is : ℕ) (name : Name) (before : List ℕ) (at : ℕ) (octets : List ℕ) (fault : Fault) → length octets < 2 ^ 64 → F is name before at octets fault → NoFront (R is name before) octets) where
  pub whole_refused : (is : ℕ) (name : Name) (before : List ℕ) (at : ℕ) (octets : List ℕ) (fault : Fault) → length octets < 2 ^ 64
      → IsWholeFault (R is name before) (F is name before) at octets fault → IsNone (R is name before) octets
  whole_refused is name before at octets fault less (in_element d f) g r e = lacks is name before at octets d less f g [] r (e ∙ sym (append-nil (enc g)))
  whole_refused is name before at octets fault less (left_over f rest q p some) g r e =
      some (same_one f g rest [] (one is name before f q) (one is name before g r) (sym p ∙ e ∙ sym (append-nil (enc g)))).rest

  rest_of : (is : ℕ) (name : Name) (f g : Forest) (rest : List ℕ) → AreElements (R is name []) f → AreElements (R is name []) g → enc f ++ rest ≡ enc g
      → (h : Forest) × AreElements (R is name []) h × (rest ≡ enc h)
  rest_of is name f g rest no_elements r e = (g, r, e)
  rest_of is name f g rest (one_more a more q qs) no_elements e =
      let o = one is name [] a q in
      let f : (enc a ++ enc more) ++ rest ≡ [] = ap (λ (l : List ℕ). l ++ rest) (sym (enc_beside a more)) ∙ e in
      absurd (omega (arith, ap (λ (l : List ℕ). length l) f, length-append (enc a ++ enc more) rest, length-append (enc a) (enc more), ap (λ (l : List ℕ). length l) o.whole, some_tlv o.tag o.content))
  rest_of is name f g rest (one_more a more q qs) (one_more b bs w ws) e =
      let s = same_one a b (enc more ++ rest) (enc bs) (one is name [] a q) (one is name [] b w)
      (sym (append_assoc (enc a) (enc more) rest) ∙ ap (λ (o : List ℕ). o ++ rest) (sym (enc_beside a more)) ∙ e ∙ enc_beside b bs) in
      rest_of is name more bs rest qs ws s.rest

  some_left_wrong : (is : ℕ) (name : Name) (at : ℕ) (octets : List ℕ) (fault : Fault) → length octets < 2 ^ 64 → 0 < length octets
      → F is name [] at octets fault → IsNone (AreElements (R is name [])) octets
  some_left_wrong is name at octets fault less some f g no_elements e = absurd (omega (arith, some, ap (λ (l : List ℕ). length l) e))
  some_left_wrong is name at octets fault less some f g (one_more a more q qs) e = lacks is name [] at octets fault less f a (enc more) q (e ∙ enc_beside a more)

  pub row_refused : (is : ℕ) (name : Name) (at : ℕ) (octets : List ℕ) (fault : Fault) → length octets < 2 ^ 64
      → IsRowFault (R is name []) (F is name []) at octets fault → IsNone (AreElements (R is name [])) octets
  row_refused is name at octets fault less w g r e =
      let h = rest_of is name w.done g w.rest w.right r (sym w.parts ∙ e) in
      some_left_wrong is name (at + length (enc w.done)) w.rest fault
      (omega (arith, less, ap (λ (l : List ℕ). length l) w.parts, length-append (enc w.done) w.rest)) w.some_left w.first_left h.0 h.1 h.2

  pub fields_refused : (fields : List Field) (before : List ℕ) (at : ℕ) (octets : List ℕ) (fault : Fault) → length octets < 2 ^ 64
      → IsFieldsFault R F fields before at octets fault → IsNone (AreFields R fields before) octets
  fields_refused fields before at octets fault less (some_over b p o some) g (no_fields c) e = some e
  fields_refused fields before at octets fault less (behind_absent field more b p o d may other f) g (absent fd fs c rest may_not there r) e =
      fields_refused more before at octets fault less f rest r e
  fields_refused fields before at octets fault less (behind_absent field more b p o d may other f) g (wrapped fd fs c t inside rest is_wrapped first q r) e =
      other (tlv_begins field.tag t octets (enc inside) (enc rest) first e)
  fields_refused fields before at octets fault less (behind_absent field more b p o d may other f) g (bare fd fs c element rest is_bare begins q r) e =
      other (begins_behind field.tag octets (enc element) (enc rest) (e ∙ enc_beside element rest) begins)
  fields_refused fields before at octets fault less (in_tag field more b p o d there h) g (absent fd fs c rest may other r) e =
      other (subst (Begins field.tag) e (there may))
  fields_refused fields before at octets fault less (in_tag field more b p o d there h) g (wrapped fd fs c t inside rest is_wrapped first q r) e =
      no_header field.tag octets h.0 less h.1 t (enc inside) (enc rest) first e
  fields_refused fields before at octets fault less (in_tag field more b p o d there h) g (bare fd fs c element rest is_bare begins q r) e =
      let u = one field.is field.name before element q in
      no_header field.tag octets h.0 less h.1 u.tag u.content (enc rest) (first_of_one field.tag element u begins)
      (e ∙ enc_beside element rest ∙ ap (λ (l : List ℕ). l ++ enc rest) u.whole)
  fields_refused fields before at octets fault less (in_wrapped field more b p t o content behind d is_wrapped first whole f) g (absent fd fs c rest may other r) e =
      other (subst (Begins field.tag) e (tlv_begins field.tag t octets content behind first whole))
  fields_refused fields before at octets fault less (in_wrapped field more b p t o content behind d is_wrapped first whole f) g (wrapped fd fs c u inside rest w y q r) e =
      whole_refused field.is field.name before (at + length (header t (length content))) content fault (content_fits t content behind octets whole less) f inside q
      (tlv_apart t u content (enc inside) behind (enc rest) (sym whole ∙ e)).content
  fields_refused fields before at octets fault less (in_wrapped field more b p t o content behind d is_wrapped first whole f) g (bare fd fs c element rest is_bare begins q r) e =
      clash field.wrapped is_wrapped is_bare
  fields_refused fields before at octets fault less (behind_wrapped field more b p t o behind within_it d is_wrapped first whole v f) g (absent fd fs c rest may other r) e =
      other (subst (Begins field.tag) e (tlv_begins field.tag t octets (enc within_it) behind first whole))
  fields_refused fields before at octets fault less (behind_wrapped field more b p t o behind within_it d is_wrapped first whole v f) g (wrapped fd fs c u inside rest w y q r) e =
      let a = tlv_apart t u (enc within_it) (enc inside) behind (enc rest) (sym whole ∙ e) in
      fields_refused more (enc within_it) (at + length (tlv t (enc within_it))) behind fault
      (omega (arith, less, ap (λ (l : List ℕ). length l) whole, length-append (tlv t (enc within_it)) behind)) f rest
      (subst (λ (l : List ℕ). AreFields R more l rest) (sym a.content) r) a.rest
  fields_refused fields before at octets fault less (behind_wrapped field more b p t o behind within_it d is_wrapped first whole v f) g (bare fd fs c element rest is_bare begins q r) e =
      clash field.wrapped is_wrapped is_bare
  fields_refused fields before at octets fault less (in_bare field more b p o d is_bare has f) g (absent fd fs c rest may other r) e =
      other (subst (Begins field.tag) e (tlv_begins field.tag has.0 octets has.1 has.2 has.3 has.4))
  fields_refused fields before at octets fault less (in_bare field more b p o d is_bare begins f) g (wrapped fd fs c t inside rest is_wrapped first q r) e =
      clash field.wrapped is_wrapped is_bare
  fields_refused fields before at octets fault less (in_bare field more b p o d is_bare begins f) g (bare fd fs c element rest w y q r) e =
      lacks field.is field.name before at octets fault less f element (enc rest) q (e ∙ enc_beside element rest)
  fields_refused fields before at octets fault less (behind_bare field more b p o behind it d is_bare begins whole v f) g (absent fd fs c rest may other r) e =
      other (subst (Begins field.tag) e begins)
  fields_refused fields before at octets fault less (behind_bare field more b p o behind it d is_bare begins whole v f) g (wrapped fd fs c t inside rest is_wrapped first q r) e =
      clash field.wrapped is_wrapped is_bare
  fields_refused fields before at octets fault less (behind_bare field more b p o behind it d is_bare begins whole v f) g (bare fd fs c element rest w y q r) e =
      let s = same_one it element behind (enc rest) (one field.is field.name before it v) (one field.is field.name before element q) (sym whole ∙ e ∙ enc_beside element rest) in
      fields_refused more (enc it) (at + length (enc it)) behind fault
      (omega (arith, less, ap (λ (l : List ℕ). length l) whole, length-append (enc it) behind)) f rest
      (subst (λ (l : List ℕ). AreFields R more l rest) (sym s.octets) r) s.rest

  pub content_refused : (schema : Schema) (shape : Shape) (name : Name) (before : List ℕ) (at t : ℕ) (content : List ℕ) (fault : Fault) → length content < 2 ^ 64
      → IsContentFault R F schema shape name before at content fault → IsNone (IsShaped R schema shape name before) (tlv t content)
  content_refused schema (shapes.Leaf tag kind) name before at t content fault less f g v e =
      leaf_refused kind at content fault less f (subst (IsLeaf kind) (sym (inner t tag content v.0 (e ∙ ap enc v.2))) v.1)
  content_refused schema (shapes.Tagged tag is) name before at t content fault less f g v e =
      whole_refused is name before at content fault less f v.0 v.1 (inner t tag content (enc v.0) (e ∙ ap enc v.2))
  content_refused schema (shapes.Sequence tag start count) name before at t content fault less (inl f) g v e = f.0 v.1
  content_refused schema (shapes.Sequence tag start count) name before at t content fault less (inr f) g v e =
      fields_refused (part start count schema.fields.now) [] at content fault less f.1 v.0 v.2 (inner t tag content (enc v.0) (e ∙ ap enc v.3))
  content_refused schema (shapes.SequenceOf tag is filled) name before at t content fault less f g v e =
      row_refused is name at content fault less f v.0 v.1 (inner t tag content (enc v.0) (e ∙ ap enc v.2))
  content_refused schema (shapes.Holding start count) name before at t content fault less f g v e = f.0 v.1
  content_refused schema shapes.Any name before at t content fault less f g v e = f

  pub shape_refused : (schema : Schema) (shape : Shape) (name : Name) (before : List ℕ) (at : ℕ) (octets : List ℕ) (fault : Fault) → length octets < 2 ^ 64
      → IsShapeFault R F schema shape name before at octets fault → NoFront (IsShaped R schema shape name before) octets
  shape_refused schema shape name before at octets fault less (inl h) g rest v e =
      let o = shaped_one R schema shape name before g v in
      no_header (tag_of shape) octets h.0 less h.1 o.t o.content rest o.begins (e ∙ ap (λ (l : List ℕ). l ++ rest) o.whole)
  shape_refused schema shape name before at octets fault less (inr f) g rest v e =
      let o = shaped_one R schema shape name before g v in
      let a = tlv_apart f.0 o.t f.1 o.content f.2 rest (sym f.4 ∙ e ∙ ap (λ (l : List ℕ). l ++ rest) o.whole) in
      content_refused schema shape name before (at + length (header f.0 (length f.1))) f.0 f.1 fault (content_fits f.0 f.1 f.2 octets f.4 less) f.5 g v
      (ap (λ (n : ℕ). tlv n f.1) a.tag ∙ ap (λ (c : List ℕ). tlv o.t c) a.content ∙ sym o.whole)

-- ---- elements

pub element_refused : (levels : ℕ) (schema : Schema) (is : ℕ) (name : Name) (before : List ℕ) (at : ℕ) (octets : List ℕ) (fault : Fault) → length octets < 2 ^ 64
    → IsFault levels schema is name before at octets fault → NoFront (IsElement levels schema is name before) octets
element_refused zero schema is name before at octets fault less f g rest v e = v
element_refused (suc levels) schema is name before at octets fault less f g rest v e =
    shape_refused (IsElement levels schema) (IsFault levels schema) (element_one levels schema) (element_refused levels schema)
    schema v.0 name before at octets fault less
    (subst (λ (o : Option Shape). MatchOption o (fault ≡ faults.NoRow) (λ shape. IsShapeFault (IsElement levels schema) (IsFault levels schema) schema shape name before at octets fault)) v.1 f)
    g rest v.2 e

pub all_refused : (levels : ℕ) (schema : Schema) (is : ℕ) (name : Name) (before : List ℕ) (at : ℕ) (octets : List ℕ) (fault : Fault) → length octets < 2 ^ 64
    → IsWholeFault (IsElement levels schema is name before) (IsFault levels schema is name before) at octets fault
    → IsNone (IsElement levels schema is name before) octets
all_refused levels schema = whole_refused (IsElement levels schema) (IsFault levels schema) (element_one levels schema) (element_refused levels schema)

pub refused_or_memory : (levels : ℕ) (schema : Schema) (is : ℕ) (name : Name) (before : List ℕ) (at : ℕ) (octets : List ℕ) (fault : Fault) → length octets < 2 ^ 64
    → OrMemory (IsWholeFault (IsElement levels schema is name before) (IsFault levels schema is name before) at octets) fault
    → (fault ≡ faults.OutOfMemory → ⊥) → IsNone (IsElement levels schema is name before) octets
refused_or_memory levels schema is name before at octets fault less (inl e) other = absurd (other e)
refused_or_memory levels schema is name before at octets fault less (inr f) other = all_refused levels schema is name before at octets fault less f
