use Rattle.std.proofs.Common.{◌-◌, ℕ, Option, List, [], length, take, refl, sym, subst, arith}
use Rattle.std.proofs.lemmas.Result.{err_from_is_err_and}
use Rattle.krb_der_core.specs.Tlv.{tlv}
use Rattle.krb_schema.specs.declared.shape.Case.{Case}
use Rattle.krb_schema.specs.declared.shape.Field.{Field}
use Rattle.krb_schema.specs.Faults.{HasElement, IsFault, IsFieldsFault, behind_absent, in_bare, in_element, in_tag}
use Rattle.krb_schema.specs.Forests.{none}
use Rattle.krb_schema.specs.Shapes.{AreFields, Begins, IsElement, IsHeld, IsNone, no_fields}
use Rattle.krb_schema.proofs.Beginnings.{tlv_begins}
use Rattle.krb_schema.proofs.Refusals.{all_refused}
use Rattle.krb_schema.proofs.Walking.{is_empty, on_ok}
use Rattle.krb_encoding_check.specs.Encodings.{Encodes}
use Rattle.krb_encoding_check.proofs.Walks.{any_at, bare_fault, element_front, ended_fault, field_absent, field_bare, field_wrapped, held_here, held_later, held_plain, inside_fault, leaf_at, on_fault, row_at, row_begun, row_more, sequence_at, tagged_at, whole_encoded, whole_fault, wrapped_fault}
use Rattle.krb_encoding_check.proofs.check.+walk.Goals as goal

has_begins : (tag : Option ℕ) (octets : List ℕ) → HasElement tag octets → Begins tag octets
has_begins tag octets h = tlv_begins tag h.0 octets h.1 h.2 h.3 h.4

-- ---- a field that stands by itself

pub check_bare-returns-in_err-rest-clause-refused : goal.check_bare-returns-in_err-rest-clause-refused
check_bare-returns-in_err-rest-clause-refused t c =
    let p = err_from_is_err_and c.from_residual.result c.from_residual.ensures.1 in
    rw (p.1, p.2)
    (in_bare c.args.field c.args.more.now c.args.before.now c.args.at c.args.octets.now c.in_err-rest.field-0.0 c.requires.bare c.requires.begins c.in_err-rest.ensures.refused)

pub check_bare-returns-clause-refused : goal.check_bare-returns-clause-refused
check_bare-returns-clause-refused t c =
    let octets = c.args.octets.now in
    let rest = c.in_ok-rest.rest.now in
    let taken = length octets - length rest in
    let R = IsElement c.args.levels c.args.schema.now in
    let F = IsFault c.args.levels c.args.schema.now in
    on_fault c.check_fields.result _ _
    (λ fault f. bare_fault R c.args.field c.args.more.now c.args.before.now octets rest (take taken octets) taken refl refl c.in_ok-rest.ensures.found
    F c.args.at fault c.requires.bare (has_begins c.args.field.tag octets c.requires.begins) f)
    c.check_fields.ensures.refused

pub check_bare-returns-clause-found : goal.check_bare-returns-clause-found
check_bare-returns-clause-found t c =
    let octets = c.args.octets.now in
    let rest = c.in_ok-rest.rest.now in
    let taken = length octets - length rest in
    on_ok c.check_fields.result _ _
    (λ v. field_bare (IsElement c.args.levels c.args.schema.now) c.args.field c.args.more.now c.args.before.now octets rest (take taken octets) taken refl refl
    c.in_ok-rest.ensures.found c.requires.bare (has_begins c.args.field.tag octets c.requires.begins) c.in_ok-rest.ensures.shrinks v)
    c.check_fields.ensures.found

-- ---- contents

pub check_content-returns-in-Leaf-clause-found : goal.check_content-returns-in-Leaf-clause-found
check_content-returns-in-Leaf-clause-found t c =
    on_ok c.check_leaf.result _ _
    (λ right. leaf_at (IsElement c.args.levels c.args.schema.now) c.args.schema.now c.args.shape c.args.name c.args.before.now c.args.tag c.args.content.now
    c.in-Leaf.field-0 c.in-Leaf.leaf c.in-Leaf.is c.requires.tagged right)
    c.check_leaf.ensures.right

pub check_content-returns-in-Any-clause-found : goal.check_content-returns-in-Any-clause-found
check_content-returns-in-Any-clause-found t c =
    any_at (IsElement c.args.levels c.args.schema.now) c.args.schema.now c.args.shape c.args.name c.args.before.now c.args.tag c.args.content.now c.in-Any.is c.requires.tagged

pub check_content-returns-in-Tagged-clause-found : goal.check_content-returns-in-Tagged-clause-found
check_content-returns-in-Tagged-clause-found t c =
    on_ok c.check_whole.result _ _
    (λ w. tagged_at (IsElement c.args.levels c.args.schema.now) c.args.schema.now c.args.shape c.args.name c.args.before.now c.args.tag c.args.content.now
    c.in-Tagged.field-0 c.in-Tagged.inner c.in-Tagged.is c.requires.tagged w)
    c.check_whole.ensures.found

pub check_content-returns-in-Some-clause-found : goal.check_content-returns-in-Some-clause-found
check_content-returns-in-Some-clause-found t c =
    on_ok c.check_fields.result _ _
    (λ w. sequence_at (IsElement c.args.levels c.args.schema.now) c.args.schema.now c.args.shape c.args.name c.args.before.now c.args.tag c.args.content.now
    c.in-Sequence.field-0 c.in-Sequence.start c.in-Sequence.count c.in-Some.fields.now c.in-Sequence.is c.requires.tagged c.in-Some.ensures.0 c.in-Some.ensures.1 w)
    c.check_fields.ensures.found

pub check_content-returns-in-SequenceOf-clause-found : goal.check_content-returns-in-SequenceOf-clause-found
check_content-returns-in-SequenceOf-clause-found t c =
    on_ok c.check_row.result _ _
    (λ w. row_at (IsElement c.args.levels c.args.schema.now) c.args.schema.now c.args.shape c.args.name c.args.before.now c.args.tag c.args.content.now
    c.in-SequenceOf.field-0 c.in-SequenceOf.inner c.in-SequenceOf.field-2 c.in-SequenceOf.is c.requires.tagged w)
    c.check_row.ensures.found

-- ---- an element

pub check_element-returns-clause-found : goal.check_element-returns-clause-found
check_element-returns-clause-found t c =
    element_front c.args.levels c.args.schema.now c.args.is c.in-Some.shape c.args.name c.args.before.now c.in_ok-found.found.tag c.args.octets.now
    c.in_ok-found.found.content.now c.in_ok-found.found.rest.now c.if-levels-eq0.false c.in-Some.ensures c.in_ok-found.ensures.found c.in_ok-check_content.ensures.found

-- ---- fields

pub check_fields-returns-in_default-clause-refused : goal.check_fields-returns-in_default-clause-refused
check_fields-returns-in_default-clause-refused t c =
    let R = IsElement c.args.levels c.args.schema.now in
    let F = IsFault c.args.levels c.args.schema.now in
    let at = c.args.at in
    let octets = c.args.octets.now in
    rw (is_empty c.args.fields.now c.in_default.ensures.cases)
    (ended_fault R F c.args.before.now at octets c.all_read.result c.all_read.ensures.some c.all_read.ensures.refused)

pub check_fields-returns-in_default-clause-found : goal.check_fields-returns-in_default-clause-found
check_fields-returns-in_default-clause-found t c =
    let R = IsElement c.args.levels c.args.schema.now in
    on_ok c.all_read.result _ _
    (λ e. subst (λ (fs : List Field). Encodes (AreFields R fs c.args.before.now) c.args.octets.now)
    (sym (is_empty c.args.fields.now c.in_default.ensures.cases)) (none, no_fields c.args.before.now, e))
    c.all_read.ensures.all

pub check_fields-returns-then-is_absent-clause-refused : goal.check_fields-returns-then-is_absent-clause-refused
check_fields-returns-then-is_absent-clause-refused t c =
    let R = IsElement c.args.levels c.args.schema.now in
    let F = IsFault c.args.levels c.args.schema.now in
    on_fault c.check_fields.result _ _
    (λ fault f. subst (λ (fs : List Field). IsFieldsFault R F fs c.args.before.now c.args.at c.args.octets.now fault) (sym c.in-Some.ensures.cases.0)
    (behind_absent c.in-Some.field.now c.in-Some.more.now c.args.before.now c.args.at c.args.octets.now fault c.if-is_absent.ensures.0 c.if-is_absent.ensures.1 f))
    c.check_fields.ensures.refused

pub check_fields-returns-then-is_absent-clause-found : goal.check_fields-returns-then-is_absent-clause-found
check_fields-returns-then-is_absent-clause-found t c =
    let R = IsElement c.args.levels c.args.schema.now in
    on_ok c.check_fields.result _ _
    (λ w. subst (λ (fs : List Field). Encodes (AreFields R fs c.args.before.now) c.args.octets.now) (sym c.in-Some.ensures.cases.0)
    (field_absent R c.in-Some.field.now c.in-Some.more.now c.args.before.now c.args.octets.now c.if-is_absent.ensures.0 c.if-is_absent.ensures.1 w))
    c.check_fields.ensures.found

pub check_fields-returns-in_err-found-clause-refused : goal.check_fields-returns-in_err-found-clause-refused
check_fields-returns-in_err-found-clause-refused t c =
    let p = err_from_is_err_and c.from_residual.result c.from_residual.ensures.1 in
    let R = IsElement c.args.levels c.args.schema.now in
    let F = IsFault c.args.levels c.args.schema.now in
    rw (p.1, p.2, c.in-Some.ensures.cases.0)
    (in_tag c.in-Some.field.now c.in-Some.more.now c.args.before.now c.args.at c.args.octets.now c.in_err-found.field-0.0 c.if-is_absent.ensures c.in_err-found.ensures.refused)

-- ---- what an OCTET STRING holds

pub check_held-returns-in_default : goal.check_held-returns-in_default
check_held-returns-in_default t c =
    let R = IsElement c.args.levels c.args.schema.now in
    subst (λ (cs : List Case). Encodes (IsHeld R c.args.name c.args.before.now c.args.content.now cs) (tlv 4 c.args.content.now))
    (sym (is_empty c.args.cases.now c.in_default.ensures.cases)) (held_plain R c.args.name c.args.before.now c.args.content.now)

pub check_held-returns-then-not-applies : goal.check_held-returns-then-not-applies
check_held-returns-then-not-applies t c =
    let R = IsElement c.args.levels c.args.schema.now in
    subst (λ (cs : List Case). Encodes (IsHeld R c.args.name c.args.before.now c.args.content.now cs) (tlv 4 c.args.content.now)) (sym c.in-Some.ensures.cases.0)
    (held_later R c.args.name c.args.before.now c.args.content.now c.in-Some.case.now c.in-Some.more.now (λ so. absurd (c.if-not-applies.ensures so)) c.check_held.ensures)

pub check_held-returns-in-Ok : goal.check_held-returns-in-Ok
check_held-returns-in-Ok t c =
    let R = IsElement c.args.levels c.args.schema.now in
    let case = c.in-Some.case.now in
    subst (λ (cs : List Case). Encodes (IsHeld R c.args.name c.args.before.now c.args.content.now cs) (tlv 4 c.args.content.now)) (sym c.in-Some.ensures.cases.0)
    (held_here R c.args.name c.args.before.now c.args.content.now case c.in-Some.more.now c.if-not-applies.ensures
    (subst (λ n. Encodes (R case.is n []) c.args.content.now) c.called.ensures c.in-Ok.ensures.found))

pub check_held-returns-in-Err : goal.check_held-returns-in-Err
check_held-returns-in-Err t c =
    let levels = c.args.levels in
    let schema = c.args.schema.now in
    let R = IsElement levels schema in
    let case = c.in-Some.case.now in
    let content = c.args.content.now in
    subst (λ (cs : List Case). Encodes (IsHeld R c.args.name c.args.before.now content cs) (tlv 4 content)) (sym c.in-Some.ensures.cases.0)
    (held_later R c.args.name c.args.before.now content case c.in-Some.more.now
    (λ so. subst (λ n. IsNone (R case.is n []) content) c.called.ensures
    (all_refused levels schema case.is c.called.result [] c.args.at content c.in-Err._fault (omega (arith, c.requires)) c.in-Err.ensures.refused))
    c.check_held-in-Err.ensures)

-- ---- rows

pub check_row-elements-init : goal.check_row-elements-init
check_row-elements-init t c =
    record { size = refl; walked = row_begun (IsElement c.args.levels c.args.schema.now c.args.is c.args.name []) c.args.at c.args.octets.now }

pub check_row-elements-preserved : goal.check_row-elements-preserved
check_row-elements-preserved t c =
    let i = c.elements.invariant in
    let v = c.in_ok-behind.ensures in
    record {
      size = omega (arith, i.size, v.shrinks);
      walked = row_more (IsElement c.args.levels c.args.schema.now c.args.is c.args.name []) c.args.at c.elements.place c.args.octets.now c.elements.rest.now c.in_ok-behind.behind.now
          i.walked v.found;
    }

-- ---- whole elements

pub check_whole-returns-in_err-rest-clause-refused : goal.check_whole-returns-in_err-rest-clause-refused
check_whole-returns-in_err-rest-clause-refused t c =
    let p = err_from_is_err_and c.from_residual.result c.from_residual.ensures.1 in
    rw (p.1, p.2) (in_element c.in_err-rest.field-0.0 c.in_err-rest.ensures.refused)

pub check_whole-returns-clause-refused : goal.check_whole-returns-clause-refused
check_whole-returns-clause-refused t c =
    whole_fault (IsElement c.args.levels c.args.schema.now c.args.is c.args.name c.args.before.now) (IsFault c.args.levels c.args.schema.now c.args.is c.args.name c.args.before.now)
    c.args.at c.args.octets.now c.in_ok-rest.rest.now c.in_ok-rest.ensures.found c.all_read.result c.all_read.ensures.some c.all_read.ensures.refused

pub check_whole-returns-clause-found : goal.check_whole-returns-clause-found
check_whole-returns-clause-found t c =
    on_ok c.all_read.result _ _
    (whole_encoded (IsElement c.args.levels c.args.schema.now c.args.is c.args.name c.args.before.now)
    (IsFault c.args.levels c.args.schema.now c.args.is c.args.name c.args.before.now) c.args.at c.args.octets.now c.in_ok-rest.rest.now c.in_ok-rest.ensures.found)
    c.all_read.ensures.all

-- ---- a field in its tag

pub check_wrapped-returns-in_err-check_whole-clause-refused : goal.check_wrapped-returns-in_err-check_whole-clause-refused
check_wrapped-returns-in_err-check_whole-clause-refused t c =
    let p = err_from_is_err_and c.from_residual.result c.from_residual.ensures.1 in
    rw (p.1, p.2)
    (inside_fault (IsElement c.args.levels c.args.schema.now) c.args.field c.args.more.now c.args.before.now (IsFault c.args.levels c.args.schema.now) c.args.at c.args.tag c.args.size
    c.args.content.now c.args.rest.now c.in_err-check_whole.field-0.0 c.requires.wrapped c.requires.tagged c.requires.headed c.in_err-check_whole.ensures.refused)

pub check_wrapped-returns-clause-refused : goal.check_wrapped-returns-clause-refused
check_wrapped-returns-clause-refused t c =
    on_fault c.check_fields.result _ _
    (λ fault f. wrapped_fault (IsElement c.args.levels c.args.schema.now) c.args.field c.args.more.now c.args.before.now (IsFault c.args.levels c.args.schema.now) c.args.at c.args.tag
    c.args.size c.args.content.now c.args.rest.now fault c.requires.wrapped c.requires.tagged c.requires.headed c.in_ok-check_whole.ensures.found f)
    c.check_fields.ensures.refused

pub check_wrapped-returns-clause-found : goal.check_wrapped-returns-clause-found
check_wrapped-returns-clause-found t c =
    on_ok c.check_fields.result _ _
    (λ v. field_wrapped (IsElement c.args.levels c.args.schema.now) c.args.field c.args.more.now c.args.before.now c.args.tag c.args.content.now c.args.rest.now
    c.requires.wrapped c.requires.tagged c.in_ok-check_whole.ensures.found v)
    c.check_fields.ensures.found
