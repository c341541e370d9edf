-- Octets have one first fault.
use Rattle.std.proofs.Common.{◌≡◌, ℕ, zero, suc, ◌+◌, ◌<◌, ◌^◌, refl, sym, ap, ◌∙◌, subst, List, [], ◌++◌, length, arith, inl, inr, Option, Some, None}
use Rattle.std.specs.Prelude.{MatchOption}
use Rattle.std.specs.List.{slice_get}
use Rattle.std.proofs.lemmas.List.{append_assoc, length-append}
use Rattle.krb_der_core.specs.Tlv.{header, tlv}
use Rattle.krb_der_core.specs.TlvLaws.{tlv_apart}
use Rattle.krb_der_core.specs.ErrorLaws.{clash, content_fits, prefix_laws}
use Rattle.krb_der_core.specs.Encoding.{IsElement as IsTlv}
use Rattle.krb_der_core.specs.Errors.{PrefixError, other_tag, in_content}
use Rattle.krb_der_core.specs.declared.error.Asn1DerError.{Asn1DerError}
use Rattle.krb_der_core.specs.declared.error.Asn1DerError.TheVariants as errors
use Rattle.krb_der_x509.specs.ObjectIdentifierErrors.{arcs_laws}
use Rattle.krb_schema.specs.declared.item.Fault.{Fault}
use Rattle.krb_schema.specs.declared.item.Fault.TheVariants as faults
use Rattle.krb_schema.specs.declared.shape.Name.{Name}
use Rattle.krb_schema.specs.declared.shape.Leaf.{Leaf}
use Rattle.krb_schema.specs.declared.shape.Leaf.TheVariants as leaves
use Rattle.krb_schema.specs.declared.shape.Field.{Field}
use Rattle.krb_schema.specs.declared.shape.Schema.{Schema}
use Rattle.krb_schema.specs.declared.shape.Shape.{Shape}
use Rattle.krb_schema.specs.declared.shape.Shape.TheVariants as shapes
use Rattle.krb_schema.specs.Forests.{Forest, enc}
use Rattle.krb_schema.specs.Shapes.{AreElements, Begins, IsElement, is_first, part, tag_of, no_elements, one_more}
use Rattle.krb_schema.specs.Faults.{IsContentFault, IsFault, IsFieldsFault, IsHeaderFault, IsLeafFault, IsRowFault, IsShapeFault, IsWholeFault, refused_at, in_element, left_over, some_over, behind_absent, in_tag, in_wrapped, behind_wrapped, in_bare, behind_bare}
use Rattle.krb_schema.specs.Walks.{NoFront}
use Rattle.krb_schema.proofs.Walking.{enc_beside}
use Rattle.krb_schema.proofs.Beginnings.{first_of_tlv, tlv_begins}
use Rattle.krb_schema.proofs.Refusals.{IsAnOne, element_one, element_refused, no_header, same_one, whole_refused}

-- ---- where what is refused has one error, it has one fault

one_refused : (at : ℕ) (E : Asn1DerError → Type 0) (d e : Fault) → ((x y : Asn1DerError) → E x → E y → x ≡ y) → refused_at at E d → refused_at at E e → d ≡ e
one_refused at E d e one f g = f.2 ∙ ap (λ (w : Asn1DerError). faults.Refused w at) (one f.0 g.0 f.1 g.1) ∙ sym g.2

pub one_header : (tag : Option ℕ) (at : ℕ) (octets : List ℕ) (d e : Fault) → length octets < 2 ^ 64 → IsHeaderFault tag at octets d → IsHeaderFault tag at octets e → d ≡ e
one_header tag at octets d e less =
    one_refused at (PrefixError (is_first tag) (λ t c x. ⊥) octets) d e
    (λ x y. (prefix_laws (IsTlv (is_first tag)) (λ v. v) (is_first tag) (λ v h. h) (λ u c z. ⊥)
    (record { no_value = λ u c z lt g v h q. g; one_error = λ u c z w lt g h. absurd g }) (λ v w h k q. q)).one_error octets x y less)

one_leaf : (kind : Leaf) (at : ℕ) (content : List ℕ) (d e : Fault) → length content < 2 ^ 64 → IsLeafFault kind at content d → IsLeafFault kind at content e → d ≡ e
one_leaf leaves.Integer at content d e less f g = one_refused at _ d e (λ x y a b. a.0 ∙ sym b.0) f g
one_leaf (leaves.Number n) at content d e less f g = one_refused at _ d e (λ x y a b. a.0 ∙ sym b.0) f g
one_leaf leaves.Microseconds at content d e less f g = one_refused at _ d e (λ x y a b. a.0 ∙ sym b.0) f g
one_leaf leaves.Unsigned at content d e less f g = one_refused at _ d e (λ x y a b. a.0 ∙ sym b.0) f g
one_leaf leaves.Flags at content d e less f g = one_refused at _ d e (λ x y a b. a.0 ∙ sym b.0) f g
one_leaf leaves.Bits at content d e less f g = one_refused at _ d e (λ x y a b. a.0 ∙ sym b.0) f g
one_leaf leaves.Text at content d e less f g = one_refused at _ d e (λ x y a b. a.0 ∙ sym b.0) f g
one_leaf leaves.Component at content d e less f g = one_refused at _ d e (λ x y a b. a.0 ∙ sym b.0) f g
one_leaf leaves.Time at content d e less f g = one_refused at _ d e (λ x y a b. a.0 ∙ sym b.0) f g
one_leaf leaves.Octets at content d e less f g = absurd f
one_leaf leaves.Secret at content d e less f g = absurd f
one_leaf leaves.Cipher at content d e less f g = absurd f
one_leaf leaves.Truth at content d e less f g = one_refused at _ d e (λ x y a b. a.0 ∙ sym b.0) f g
one_leaf leaves.Identifier at content d e less (w, other_tag n, p) g = absurd (n refl)
one_leaf leaves.Identifier at content d e less (w, in_content a n f, p) (x, other_tag m, q) = absurd (m refl)
one_leaf leaves.Identifier at content d e less (w, in_content a n f, p) (x, in_content b m g, q) =
    p ∙ ap (λ (z : Asn1DerError). faults.Refused z at) (arcs_laws.one_error content w x less f g) ∙ sym q
one_leaf leaves.Any at content d e less f g = absurd f

-- ---- wholes, rows, fields and contents, where elements have one

module _ (R : ℕ → Name → List ℕ → Forest → Type 0) (F : ℕ → Name → List ℕ → ℕ → List ℕ → Fault → Type 0)
    (one : (is : ℕ) (name : Name) (before : List ℕ) (f : Forest) → R is name before f → IsAnOne f)
    (lacks : (is : ℕ) (name : Name) (before : List ℕ) (at : ℕ) (octets : List ℕ) (fault : Fault) → length octets < 2 ^ 64 → F is name before at octets fault → NoFront (R is name before) octets)
    (same : (is : ℕ) (name : Name) (before : List ℕ) (at : ℕ) (octets : List ℕ) (d e : Fault) → length octets < 2 ^ 64 → F is name before at octets d → F is name before at octets e → d ≡ e) where
  pub one_whole : (is : ℕ) (name : Name) (before : List ℕ) (at : ℕ) (octets : List ℕ) (d e : Fault) → length octets < 2 ^ 64
      → IsWholeFault (R is name before) (F is name before) at octets d → IsWholeFault (R is name before) (F is name before) at octets e → d ≡ e
  one_whole is name before at octets d e less (in_element x f) (in_element y g) = same is name before at octets d e less f g
  one_whole is name before at octets d e less (in_element x f) (left_over h rest q p some) = absurd (lacks is name before at octets d less f h rest q p)
  one_whole is name before at octets d e less (left_over h rest q p some) (in_element y g) = absurd (lacks is name before at octets e less g h rest q p)
  one_whole is name before at octets d e less (left_over h rest q p some) (left_over k other r s more) =
      ap (λ (l : List ℕ). faults.Refused errors.InvalidData (at + length l)) (same_one h k rest other (one is name before h q) (one is name before k r) (sym p ∙ s)).octets

  one_behind : (is : ℕ) (name : Name) (at : ℕ) (octets : List ℕ) (f g : Forest) (rest other : List ℕ) (d e : Fault) → length octets < 2 ^ 64
      → AreElements (R is name []) f → AreElements (R is name []) g → octets ≡ enc f ++ rest → octets ≡ enc g ++ other
      → F is name [] (at + length (enc f)) rest d → F is name [] (at + length (enc g)) other e → d ≡ e
  one_behind is name at octets f g rest other d e less no_elements no_elements p q x y =
      same is name [] (at + 0) rest d e (subst (λ (o : List ℕ). length o < 2 ^ 64) p less) x (subst (λ (o : List ℕ). F is name [] (at + 0) o e) (sym q ∙ p) y)
  one_behind is name at octets f g rest other d e less no_elements (one_more b more r rs) p q x y =
      absurd (lacks is name [] (at + 0) rest d (subst (λ (o : List ℕ). length o < 2 ^ 64) p less) x b (enc more ++ other) r
      (sym p ∙ q ∙ ap (λ (o : List ℕ). o ++ other) (enc_beside b more) ∙ append_assoc (enc b) (enc more) other))
  one_behind is name at octets f g rest other d e less (one_more a more r rs) no_elements p q x y =
      absurd (lacks is name [] (at + 0) other e (subst (λ (o : List ℕ). length o < 2 ^ 64) q less) y a (enc more ++ rest) r
      (sym q ∙ p ∙ ap (λ (o : List ℕ). o ++ rest) (enc_beside a more) ∙ append_assoc (enc a) (enc more) rest))
  one_behind is name at octets f g rest other d e less (one_more a as_ r rs) (one_more b bs w ws) p q x y =
      let u = p ∙ ap (λ (o : List ℕ). o ++ rest) (enc_beside a as_) ∙ append_assoc (enc a) (enc as_) rest in
      let v = q ∙ ap (λ (o : List ℕ). o ++ other) (enc_beside b bs) ∙ append_assoc (enc b) (enc bs) other in
      let s = same_one a b (enc as_ ++ rest) (enc bs ++ other) (one is name [] a r) (one is name [] b w) (sym u ∙ v) in
      let m = at + length (enc a) in
      one_behind is name m (enc as_ ++ rest) as_ bs rest other d e
      (omega (arith, less, ap (λ (l : List ℕ). length l) u, length-append (enc a) (enc as_ ++ rest))) rs ws refl s.rest
      (subst (λ (n : ℕ). F is name [] n rest d) (omega (arith, ap (λ (l : List ℕ). length l) (enc_beside a as_), length-append (enc a) (enc as_))) x)
      (subst (λ (n : ℕ). F is name [] n other e)
      (omega (arith, ap (λ (l : List ℕ). length l) (enc_beside b bs), length-append (enc b) (enc bs), ap (λ (l : List ℕ). length l) s.octets)) y)

  pub one_row : (is : ℕ) (name : Name) (at : ℕ) (octets : List ℕ) (d e : Fault) → length octets < 2 ^ 64
      → IsRowFault (R is name []) (F is name []) at octets d → IsRowFault (R is name []) (F is name []) at octets e → d ≡ e
  one_row is name at octets d e less v w = one_behind is name at octets v.done w.done v.rest w.rest d e less v.right w.right v.parts w.parts v.first_left w.first_left

  whole_lacks : (is : ℕ) (name : Name) (before : List ℕ) (at : ℕ) (octets : List ℕ) (fault : Fault) → length octets < 2 ^ 64
      → IsWholeFault (R is name before) (F is name before) at octets fault → (f : Forest) → R is name before f → octets ≡ enc f → ⊥
  whole_lacks = whole_refused R F one lacks

  bare_header : (tag : Option ℕ) (is : ℕ) (name : Name) (before octets rest : List ℕ) (element : Forest) (why : Asn1DerError) → length octets < 2 ^ 64
      → PrefixError (is_first tag) (λ t c x. ⊥) octets why → Begins tag octets → R is name before element → octets ≡ enc element ++ rest → ⊥
  bare_header tag is name before octets rest element why less h begins r whole =
      let u = one is name before element r in
      let all : octets ≡ tlv u.tag u.content ++ rest = whole ∙ ap (λ (l : List ℕ). l ++ rest) u.whole in
      no_header tag octets why less h u.tag u.content rest (first_of_tlv tag u.tag octets u.content rest all begins) all

  pub one_fields : (fields : List Field) (before : List ℕ) (at : ℕ) (octets : List ℕ) (d e : Fault) → length octets < 2 ^ 64
      → IsFieldsFault R F fields before at octets d → IsFieldsFault R F fields before at octets e → d ≡ e
  one_fields fields before at octets d e less (some_over b p o some) (some_over c q u more) = refl
  one_fields fields before at octets d e less (behind_absent fd fs b p o x may other f) (behind_absent gd gs c q u y may_too other_too g) = one_fields fs before at octets d e less f g
  one_fields fields before at octets d e less (behind_absent fd fs b p o x may other f) (in_tag gd gs c q u y there h) = absurd (other (there may))
  one_fields fields before at octets d e less (behind_absent fd fs b p o x may other f) (in_wrapped gd gs c q t u content rest y w first whole g) =
      absurd (other (tlv_begins fd.tag t octets content rest first whole))
  one_fields fields before at octets d e less (behind_absent fd fs b p o x may other f) (behind_wrapped gd gs c q t u rest inside y w first whole r g) =
      absurd (other (tlv_begins fd.tag t octets (enc inside) rest first whole))
  one_fields fields before at octets d e less (behind_absent fd fs b p o x may other f) (in_bare gd gs c q u y w has g) =
      absurd (other (tlv_begins fd.tag has.0 octets has.1 has.2 has.3 has.4))
  one_fields fields before at octets d e less (behind_absent fd fs b p o x may other f) (behind_bare gd gs c q u rest element y w begins whole r g) = absurd (other begins)
  one_fields fields before at octets d e less (in_tag fd fs b p o x there h) (behind_absent gd gs c q u y may other g) = absurd (other (there may))
  one_fields fields before at octets d e less (in_tag fd fs b p o x there h) (in_tag gd gs c q u y there_too k) = one_header fd.tag at octets d e less h k
  one_fields fields before at octets d e less (in_tag fd fs b p o x there h) (in_wrapped gd gs c q t u content rest y w first whole g) =
      absurd (no_header fd.tag octets h.0 less h.1 t content rest first whole)
  one_fields fields before at octets d e less (in_tag fd fs b p o x there h) (behind_wrapped gd gs c q t u rest inside y w first whole r g) =
      absurd (no_header fd.tag octets h.0 less h.1 t (enc inside) rest first whole)
  one_fields fields before at octets d e less (in_tag fd fs b p o x there h) (in_bare gd gs c q u y w has g) =
      absurd (no_header fd.tag octets h.0 less h.1 has.0 has.1 has.2 has.3 has.4)
  one_fields fields before at octets d e less (in_tag fd fs b p o x there h) (behind_bare gd gs c q u rest element y w begins whole r g) =
      absurd (bare_header fd.tag fd.is fd.name before octets rest element h.0 less h.1 begins r whole)
  one_fields fields before at octets d e less (in_wrapped fd fs b p t o content rest x w first whole f) (behind_absent gd gs c q u y may other g) =
      absurd (other (tlv_begins fd.tag t octets content rest first whole))
  one_fields fields before at octets d e less (in_wrapped fd fs b p t o content rest x w first whole f) (in_tag gd gs c q u y there h) =
      absurd (no_header fd.tag octets h.0 less h.1 t content rest first whole)
  one_fields fields before at octets d e less (in_wrapped fd fs b p t o content rest x w first whole f) (in_wrapped gd gs c q n u held last y z initial all g) =
      let a = tlv_apart t n content held rest last (sym whole ∙ all) in
      one_whole fd.is fd.name before (at + length (header t (length content))) content d e (content_fits t content rest octets whole less) f
      (subst (λ (m : ℕ). IsWholeFault (R fd.is fd.name before) (F fd.is fd.name before) (at + length (header m (length content))) content e) (sym a.tag)
      (subst (λ (l : List ℕ). IsWholeFault (R fd.is fd.name before) (F fd.is fd.name before) (at + length (header n (length l))) l e) (sym a.content) g))
  one_fields fields before at octets d e less (in_wrapped fd fs b p t o content rest x w first whole f) (behind_wrapped gd gs c q n u last inside y z initial all r g) =
      absurd (whole_lacks fd.is fd.name before (at + length (header t (length content))) content d (content_fits t content rest octets whole less) f inside r
      (tlv_apart t n content (enc inside) rest last (sym whole ∙ all)).content)
  one_fields fields before at octets d e less (in_wrapped fd fs b p t o content rest x w first whole f) (in_bare gd gs c q u y z has g) = absurd (clash fd.wrapped w z)
  one_fields fields before at octets d e less (in_wrapped fd fs b p t o content rest x w first whole f) (behind_bare gd gs c q u last element y z begins all r g) = absurd (clash fd.wrapped w z)
  one_fields fields before at octets d e less (behind_wrapped fd fs b p t o rest inside x w first whole r f) (behind_absent gd gs c q u y may other g) =
      absurd (other (tlv_begins fd.tag t octets (enc inside) rest first whole))
  one_fields fields before at octets d e less (behind_wrapped fd fs b p t o rest inside x w first whole r f) (in_tag gd gs c q u y there h) =
      absurd (no_header fd.tag octets h.0 less h.1 t (enc inside) rest first whole)
  one_fields fields before at octets d e less (behind_wrapped fd fs b p t o rest inside x w first whole r f) (in_wrapped gd gs c q n u held last y z initial all g) =
      absurd (whole_lacks fd.is fd.name before (at + length (header n (length held))) held e (content_fits n held last octets all less) g inside r
      (tlv_apart n t held (enc inside) last rest (sym all ∙ whole)).content)
  one_fields fields before at octets d e less (behind_wrapped fd fs b p t o rest inside x w first whole r f) (behind_wrapped gd gs c q n u last within y z initial all v g) =
      let a = tlv_apart t n (enc inside) (enc within) rest last (sym whole ∙ all) in
      one_fields fs (enc inside) (at + length (tlv t (enc inside))) rest d e
      (omega (arith, less, ap (λ (l : List ℕ). length l) whole, length-append (tlv t (enc inside)) rest)) f
      (subst (λ (m : ℕ). IsFieldsFault R F fs (enc inside) (at + length (tlv m (enc inside))) rest e) (sym a.tag)
      (subst (λ (l : List ℕ). IsFieldsFault R F fs l (at + length (tlv n l)) rest e) (sym a.content)
      (subst (λ (l : List ℕ). IsFieldsFault R F fs (enc within) (at + length (tlv n (enc within))) l e) (sym a.rest) g)))
  one_fields fields before at octets d e less (behind_wrapped fd fs b p t o rest inside x w first whole r f) (in_bare gd gs c q u y z has g) = absurd (clash fd.wrapped w z)
  one_fields fields before at octets d e less (behind_wrapped fd fs b p t o rest inside x w first whole r f) (behind_bare gd gs c q u last element y z begins all v g) = absurd (clash fd.wrapped w z)
  one_fields fields before at octets d e less (in_bare fd fs b p o x w has f) (behind_absent gd gs c q u y may other g) =
      absurd (other (tlv_begins fd.tag has.0 octets has.1 has.2 has.3 has.4))
  one_fields fields before at octets d e less (in_bare fd fs b p o x w has f) (in_tag gd gs c q u y there h) =
      absurd (no_header fd.tag octets h.0 less h.1 has.0 has.1 has.2 has.3 has.4)
  one_fields fields before at octets d e less (in_bare fd fs b p o x w has f) (in_wrapped gd gs c q t u content rest y z first whole g) = absurd (clash fd.wrapped z w)
  one_fields fields before at octets d e less (in_bare fd fs b p o x w has f) (behind_wrapped gd gs c q t u rest inside y z first whole r g) = absurd (clash fd.wrapped z w)
  one_fields fields before at octets d e less (in_bare fd fs b p o x w has f) (in_bare gd gs c q u y z has_too g) = same fd.is fd.name before at octets d e less f g
  one_fields fields before at octets d e less (in_bare fd fs b p o x w has f) (behind_bare gd gs c q u rest element y z begins whole r g) =
      absurd (lacks fd.is fd.name before at octets d less f element rest r whole)
  one_fields fields before at octets d e less (behind_bare fd fs b p o rest element x w begins whole r f) (behind_absent gd gs c q u y may other g) = absurd (other begins)
  one_fields fields before at octets d e less (behind_bare fd fs b p o rest element x w begins whole r f) (in_tag gd gs c q u y there h) =
      absurd (bare_header fd.tag fd.is fd.name before octets rest element h.0 less h.1 begins r whole)
  one_fields fields before at octets d e less (behind_bare fd fs b p o rest element x w begins whole r f) (in_wrapped gd gs c q t u content last y z first all g) = absurd (clash fd.wrapped z w)
  one_fields fields before at octets d e less (behind_bare fd fs b p o rest element x w begins whole r f) (behind_wrapped gd gs c q t u last inside y z first all v g) = absurd (clash fd.wrapped z w)
  one_fields fields before at octets d e less (behind_bare fd fs b p o rest element x w begins whole r f) (in_bare gd gs c q u y z has g) =
      absurd (lacks fd.is fd.name before at octets e less g element rest r whole)
  one_fields fields before at octets d e less (behind_bare fd fs b p o rest element x w begins whole r f) (behind_bare gd gs c q u last other y z starts all v g) =
      let s = same_one element other rest last (one fd.is fd.name before element r) (one fd.is fd.name before other v) (sym whole ∙ all) in
      one_fields fs (enc element) (at + length (enc element)) rest d e
      (omega (arith, less, ap (λ (l : List ℕ). length l) whole, length-append (enc element) rest)) f
      (subst (λ (l : List ℕ). IsFieldsFault R F fs l (at + length l) rest e) (sym s.octets)
      (subst (λ (l : List ℕ). IsFieldsFault R F fs (enc other) (at + length (enc other)) l e) (sym s.rest) g))

  pub one_content : (schema : Schema) (shape : Shape) (name : Name) (before : List ℕ) (at : ℕ) (content : List ℕ) (d e : Fault) → length content < 2 ^ 64
      → IsContentFault R F schema shape name before at content d → IsContentFault R F schema shape name before at content e → d ≡ e
  one_content schema (shapes.Leaf tag kind) name before at content d e less f g = one_leaf kind at content d e less f g
  one_content schema (shapes.Tagged tag is) name before at content d e less f g = one_whole is name before at content d e less f g
  one_content schema (shapes.Sequence tag start count) name before at content d e less (inl f) (inl g) = f.1 ∙ sym g.1
  one_content schema (shapes.Sequence tag start count) name before at content d e less (inl f) (inr g) = absurd (f.0 g.0)
  one_content schema (shapes.Sequence tag start count) name before at content d e less (inr f) (inl g) = absurd (g.0 f.0)
  one_content schema (shapes.Sequence tag start count) name before at content d e less (inr f) (inr g) =
      one_fields (part start count schema.fields.now) [] at content d e less f.1 g.1
  one_content schema (shapes.SequenceOf tag is filled) name before at content d e less f g = one_row is name at content d e less f g
  one_content schema (shapes.Holding start count) name before at content d e less f g = f.1 ∙ sym g.1
  one_content schema shapes.Any name before at content d e less f g = absurd f

  pub one_shape : (schema : Schema) (shape : Shape) (name : Name) (before : List ℕ) (at : ℕ) (octets : List ℕ) (d e : Fault) → length octets < 2 ^ 64
      → IsShapeFault R F schema shape name before at octets d → IsShapeFault R F schema shape name before at octets e → d ≡ e
  one_shape schema shape name before at octets d e less (inl f) (inl g) = one_header (tag_of shape) at octets d e less f g
  one_shape schema shape name before at octets d e less (inl f) (inr g) = absurd (no_header (tag_of shape) octets f.0 less f.1 g.0 g.1 g.2 g.3 g.4)
  one_shape schema shape name before at octets d e less (inr f) (inl g) = absurd (no_header (tag_of shape) octets g.0 less g.1 f.0 f.1 f.2 f.3 f.4)
  one_shape schema shape name before at octets d e less (inr f) (inr g) =
      let a = tlv_apart f.0 g.0 f.1 g.1 f.2 g.2 (sym f.4 ∙ g.4) in
      one_content schema shape name before (at + length (header f.0 (length f.1))) f.1 d e (content_fits f.0 f.1 f.2 octets f.4 less) f.5
      (subst (λ (m : ℕ). IsContentFault R F schema shape name before (at + length (header m (length f.1))) f.1 e) (sym a.tag)
      (subst (λ (l : List ℕ). IsContentFault R F schema shape name before (at + length (header g.0 (length l))) l e) (sym a.content) g.5))

-- ---- elements

-- the schema lacks the row, or it is the fault of an element of the row's shape
row_fault : (IsOne : Shape → Fault → Type 0) (row : Option Shape) (d e : Fault) → ((shape : Shape) → IsOne shape d → IsOne shape e → d ≡ e)
    → MatchOption row (d ≡ faults.NoRow) (λ shape. IsOne shape d) → MatchOption row (e ≡ faults.NoRow) (λ shape. IsOne shape e) → d ≡ e
row_fault IsOne None d e one f g = f ∙ sym g
row_fault IsOne (Some shape) d e one f g = one shape f g

pub one_fault : (levels : ℕ) (schema : Schema) (is : ℕ) (name : Name) (before : List ℕ) (at : ℕ) (octets : List ℕ) (d e : Fault) → length octets < 2 ^ 64
    → IsFault levels schema is name before at octets d → IsFault levels schema is name before at octets e → d ≡ e
one_fault zero schema is name before at octets d e less f g = f ∙ sym g
one_fault (suc levels) schema is name before at octets d e less f g =
    row_fault (λ shape fault. IsShapeFault (IsElement levels schema) (IsFault levels schema) schema shape name before at octets fault) (slice_get schema.shapes.now is) d e
    (λ shape. one_shape (IsElement levels schema) (IsFault levels schema) (element_one levels schema) (element_refused levels schema) (one_fault levels schema)
    schema shape name before at octets d e less)
    f g

pub one_first_fault : (schema : Schema) (is : ℕ) (name : Name) (octets : List ℕ) (d e : Fault) → length octets < 2 ^ 64
    → IsWholeFault (IsElement 64 schema is name []) (IsFault 64 schema is name []) 0 octets d
    → IsWholeFault (IsElement 64 schema is name []) (IsFault 64 schema is name []) 0 octets e → d ≡ e
one_first_fault schema is name octets d e less =
    one_whole (IsElement 64 schema) (IsFault 64 schema) (element_one 64 schema) (element_refused 64 schema) (one_fault 64 schema) is name [] 0 octets d e less
