use Rattle.std.proofs.Common.{◌≡◌, ◌+◌, ◌-◌, ℕ, List, [], ◌∷◌, ◌++◌, length, take, refl, sym, ap, ◌∙◌, subst, arith}
use Rattle.std.proofs.lemmas.Result.{err_from_is_err_and}
use Rattle.krb_der_core.specs.Tlv.{tlv}
use Rattle.krb_schema.specs.declared.shape.Field.{Field}
use Rattle.krb_schema.specs.declared.shape.Case.{Case}
use Rattle.krb_schema.specs.declared.item.Item.{Item}
use Rattle.krb_schema.specs.declared.item.Form.TheVariants as form
use Rattle.krb_schema.specs.declared.item.Node.TheVariants as nodes
use Rattle.krb_schema.specs.declared.shape.Leaf.TheVariants as leaves
use Rattle.krb_schema.specs.Forests.{item}
use Rattle.krb_schema.specs.Shapes.{AreFields, IsElement, IsHeld, IsNone}
use Rattle.krb_schema.specs.Faults.{IsFault, IsFieldsFault, behind_absent}
use Rattle.krb_schema.specs.Walks.{Walked}
use Rattle.krb_schema.proofs.Walking.{on_ok, on_both, is_empty, tlv_size, bare_walked, element_walked, field_absent, fields_ended, held_here, held_later, held_plain, more_walked, row_begun, wrapped_walked}
use Rattle.krb_schema.proofs.Composing.{has_begins, any_at, bare_fault, element_fault, ended_fault, inside_fault, leaf_at, on_fault, on_memory, row_at, sequence_at, tag_fault, tagged_at, whole_fault, within_fault, wrapped_fault}
use Rattle.krb_schema.proofs.Refusals.{refused_or_memory}
use Rattle.krb_schema.proofs.walk.+walk.Goals as goal

pub push_bare-returns-in_err-rest-clause-refused : goal.push_bare-returns-in_err-rest-clause-refused
push_bare-returns-in_err-rest-clause-refused t c =
    let p = err_from_is_err_and c.from_residual.result c.from_residual.ensures.1 in
    rw (p.1, p.2)
    (on_memory _ _ _ (λ fault f. element_fault (IsElement c.args.levels c.args.schema.now) (IsFault c.args.levels c.args.schema.now) c.args.field c.args.more.now c.args.before.now
    c.args.at c.args.octets.now fault c.requires.bare c.requires.begins f)
    c.in_err-rest.ensures.refused)

pub push_bare-returns-clause-refused : goal.push_bare-returns-clause-refused
push_bare-returns-clause-refused t c =
    let levels = c.args.levels in
    let schema = c.args.schema.now in
    let octets = c.args.octets.now in
    let rest = c.in_ok-rest.rest.now in
    let taken = length octets - length rest in
    on_fault c.push_fields.result _ _
    (λ fault f. bare_fault (IsElement levels schema) (IsFault levels schema) c.args.field c.args.more.now c.args.before.now c.args.depth c.args.at taken octets
    (take taken octets) rest c.args.items.now.items c.push_element.new.items.items fault c.requires.bare (has_begins c.args.field.tag octets c.requires.begins) refl refl c.in_ok-rest.ensures.walked f)
    c.push_fields.ensures.refused

pub push_bare-returns-clause-walked : goal.push_bare-returns-clause-walked
push_bare-returns-clause-walked t c =
    let octets = c.args.octets.now in
    let rest = c.in_ok-rest.rest.now in
    let taken = length octets - length rest in
    on_ok c.push_fields.result _ _
    (λ v. bare_walked (IsElement c.args.levels c.args.schema.now) c.args.field c.args.more.now c.args.before.now c.args.depth c.args.at taken octets
    (take taken octets) rest c.args.items.now.items c.push_element.new.items.items c.push_fields.new.items.items c.requires.bare (has_begins c.args.field.tag octets c.requires.begins)
    (omega (arith, c.in_ok-rest.ensures.shrinks)) refl refl c.in_ok-rest.ensures.walked v)
    c.push_fields.ensures.walked

pub push_content-returns-in-Leaf-clause-walked : goal.push_content-returns-in-Leaf-clause-walked
push_content-returns-in-Leaf-clause-walked t c =
    on_both c.push_leaf.result _ _ _
    (λ right told. leaf_at (IsElement c.args.levels c.args.schema.now) c.args.schema.now c.args.shape c.in-Leaf.field-0 c.in-Leaf.leaf c.args.before.now c.args.head
    c.args.content.now c.args.items.now.items c.push_leaf.new.items.items c.in-Leaf.is c.requires.tagged right told)
    c.push_leaf.ensures.right c.push_leaf.ensures.told

pub push_content-returns-in-Any-clause-walked : goal.push_content-returns-in-Any-clause-walked
push_content-returns-in-Any-clause-walked t c =
    on_ok c.push_leaf-in-Any.result _ _
    (λ told. any_at (IsElement c.args.levels c.args.schema.now) c.args.schema.now c.args.shape c.args.before.now c.args.head
    c.args.content.now c.args.items.now.items c.push_leaf-in-Any.new.items.items c.in-Any.is c.requires.tagged told)
    c.push_leaf-in-Any.ensures.told

pub push_content-returns-in_ok-push_item-in-Tagged-2-clause-walked : goal.push_content-returns-in_ok-push_item-in-Tagged-2-clause-walked
push_content-returns-in_ok-push_item-in-Tagged-2-clause-walked t c =
    tagged_at (IsElement c.args.levels c.args.schema.now) c.args.schema.now c.args.shape c.in-Tagged.field-0 c.in-Tagged.inner c.args.before.now c.args.head
    c.args.content.now c.args.items.now.items c.push_item.new.items.items c.push_whole.new.items.items c.push_item-in-Tagged.new.items.items
    c.in-Tagged.is c.requires.tagged c.requires.headed c.in_ok-push_item-in-Tagged.ensures c.in_ok-push_whole-in-Tagged.ensures.walked
    c.in_ok-push_item-in-Tagged-2.ensures

pub push_content-returns-in_ok-push_item-in-Sequence-2-clause-walked : goal.push_content-returns-in_ok-push_item-in-Sequence-2-clause-walked
push_content-returns-in_ok-push_item-in-Sequence-2-clause-walked t c =
    sequence_at (IsElement c.args.levels c.args.schema.now) c.args.schema.now c.args.shape c.in-Sequence.field-0 c.in-Sequence.start c.in-Sequence.count c.in-Some.fields.now c.args.before.now
    c.args.head c.args.content.now c.args.items.now.items c.push_item-in-Sequence.new.items.items c.push_fields.new.items.items c.push_item-in-Sequence-2.new.items.items
    c.in-Sequence.is c.requires.tagged c.requires.headed c.in-Some.ensures.0 c.in-Some.ensures.1
    c.in_ok-push_item-in-Sequence.ensures c.in_ok-push_fields-in-Sequence.ensures.walked c.in_ok-push_item-in-Sequence-2.ensures

pub push_content-returns-in_ok-push_item-in-SequenceOf-2-clause-walked : goal.push_content-returns-in_ok-push_item-in-SequenceOf-2-clause-walked
push_content-returns-in_ok-push_item-in-SequenceOf-2-clause-walked t c =
    row_at (IsElement c.args.levels c.args.schema.now) c.args.schema.now c.args.shape c.in-SequenceOf.field-0 c.in-SequenceOf.inner c.in-SequenceOf.filled c.list_node-list.result c.args.before.now
    c.args.head c.args.content.now c.args.items.now.items c.push_item-in-SequenceOf.new.items.items c.push_row.new.items.items c.push_item-in-SequenceOf-2.new.items.items
    c.in-SequenceOf.is c.requires.tagged c.requires.headed
    c.list_node-list.ensures c.in_ok-push_item-in-SequenceOf.ensures c.in_ok-push_row-in-SequenceOf.ensures.walked c.in_ok-push_item-in-SequenceOf-2.ensures

pub push_element-returns-clause-walked : goal.push_element-returns-clause-walked
push_element-returns-clause-walked t c =
    element_walked c.args.levels c.args.schema.now c.args.is c.in-Some.shape c.args.name c.args.before.now c.args.depth c.args.at c.in_ok-found.found.tag c.args.octets.now
    c.in_ok-found.found.content.now c.in_ok-found.found.rest.now c.args.items.now.items c.push_content.new.items.items
    c.if-levels-eq0.false c.in-Some.ensures c.in_ok-found.ensures.found c.in_ok-push_content.ensures.walked

pub push_fields-returns-in_default-clause-refused : goal.push_fields-returns-in_default-clause-refused
push_fields-returns-in_default-clause-refused t c =
    ended_fault (IsElement c.args.levels c.args.schema.now) (IsFault c.args.levels c.args.schema.now) c.args.fields.now c.args.before.now c.args.at c.args.octets.now
    c.all_read.result (is_empty c.args.fields.now c.in_default.ensures.cases) c.all_read.ensures.some c.all_read.ensures.refused

pub push_fields-returns-in_default-clause-walked : goal.push_fields-returns-in_default-clause-walked
push_fields-returns-in_default-clause-walked t c =
    let items = c.args.items.now.items in
    let R = IsElement c.args.levels c.args.schema.now in
    on_ok c.all_read.result _ _
    (λ e. subst (λ (fs : List Field). Walked (AreFields R fs c.args.before.now) c.args.octets.now c.args.depth c.args.at items items)
    (sym (is_empty c.args.fields.now c.in_default.ensures.cases)) (fields_ended R c.args.before.now c.args.depth c.args.at c.args.octets.now items e))
    c.all_read.ensures.all

pub push_fields-returns-then-is_absent-clause-refused : goal.push_fields-returns-then-is_absent-clause-refused
push_fields-returns-then-is_absent-clause-refused t c =
    let R = IsElement c.args.levels c.args.schema.now in
    let F = IsFault c.args.levels c.args.schema.now in
    on_fault c.push_fields.result _ _
    (λ fault f. subst (λ (fs : List Field). IsFieldsFault R F fs c.args.before.now c.args.at c.args.octets.now fault) (sym c.in-Some.ensures.cases.0)
    (behind_absent c.in-Some.field.now c.in-Some.more.now c.args.before.now c.args.at c.args.octets.now fault c.if-is_absent.ensures.0 c.if-is_absent.ensures.1 f))
    c.push_fields.ensures.refused

pub push_fields-returns-then-is_absent-clause-walked : goal.push_fields-returns-then-is_absent-clause-walked
push_fields-returns-then-is_absent-clause-walked t c =
    let items = c.args.items.now.items in
    let ended = c.push_fields.new.items.items in
    let R = IsElement c.args.levels c.args.schema.now in
    on_ok c.push_fields.result _ _
    (λ w. subst (λ (fs : List Field). Walked (AreFields R fs c.args.before.now) c.args.octets.now c.args.depth c.args.at items ended)
    (sym c.in-Some.ensures.cases.0)
    (field_absent R c.in-Some.field.now c.in-Some.more.now c.args.before.now c.args.depth c.args.at c.args.octets.now items ended
    c.if-is_absent.ensures.0 c.if-is_absent.ensures.1 w))
    c.push_fields.ensures.walked

pub push_fields-returns-in_err-found-clause-refused : goal.push_fields-returns-in_err-found-clause-refused
push_fields-returns-in_err-found-clause-refused t c =
    let p = err_from_is_err_and c.from_residual.result c.from_residual.ensures.1 in
    let R = IsElement c.args.levels c.args.schema.now in
    let F = IsFault c.args.levels c.args.schema.now in
    rw (p.1, p.2)
    (tag_fault R F c.in-Some.field.now c.in-Some.more.now c.args.fields.now c.args.before.now c.args.at c.args.octets.now c.in_err-found.field-0.0 c.in-Some.ensures.cases.0
    c.if-is_absent.ensures c.in_err-found.ensures.refused)

pub push_held-returns-in_default-clause-walked : goal.push_held-returns-in_default-clause-walked
push_held-returns-in_default-clause-walked t c =
    let items = c.args.items.now.items in
    let ended = c.push_item.new.items.items in
    let head = c.args.head in
    let R = IsElement c.args.levels c.args.schema.now in
    subst (λ (cs : List Case). Walked (IsHeld R head.name c.args.before.now c.args.content.now cs) (tlv head.tag c.args.content.now) head.depth head.at items ended)
    (sym (is_empty c.args.cases.now c.in_default.ensures.cases))
    (held_plain R head.name c.args.before.now c.args.content.now head.tag head.depth head.at items ended c.requires.tagged
    (c.in_ok-push_item.ensures ∙ ap (λ (n : ℕ). items ++ item (form.Leaf leaves.Octets) head.name head.depth head.tag head.at n ∷ []) c.requires.headed.size))

pub push_held-returns-then-not-applies-clause-walked : goal.push_held-returns-then-not-applies-clause-walked
push_held-returns-then-not-applies-clause-walked t c =
    let items = c.args.items.now.items in
    let ended = c.push_held.new.items.items in
    let head = c.args.head in
    let content = c.args.content.now in
    let R = IsElement c.args.levels c.args.schema.now in
    on_ok c.push_held.result _ _
    (λ w. subst (λ (cs : List Case). Walked (IsHeld R head.name c.args.before.now content cs) (tlv head.tag content) head.depth head.at items ended)
    (sym c.in-Some.ensures.cases.0)
    (held_later R head.name c.args.before.now content c.in-Some.case.now c.in-Some.more.now (tlv head.tag content) head.depth head.at items ended
    (λ so. absurd (c.if-not-applies.ensures so)) w))
    c.push_held.ensures.walked

pub push_row-elements-init : goal.push_row-elements-init
push_row-elements-init t c =
    record { size = refl; walked = row_begun (IsElement c.args.levels c.args.schema.now c.args.is c.args.name []) c.args.depth c.args.at c.args.octets.now c.args.items.now.items }

pub push_row-elements-preserved : goal.push_row-elements-preserved
push_row-elements-preserved t c =
    let i = c.elements.invariant in
    let w = i.walked in
    let v = c.in_ok-behind.ensures in
    let m = more_walked (IsElement c.args.levels c.args.schema.now c.args.is c.args.name []) c.args.depth c.args.at c.elements.place c.args.octets.now w.0
    c.elements.rest.now c.in_ok-behind.behind.now c.args.items.now.items c.elements.items.items c.push_element.new.items.items w.1 w.2 w.3 v.walked in
    record { size = omega (arith, i.size, v.shrinks); walked = (m.0, m.1, sym m.2, m.3) }

pub push_whole-returns-in_err-rest-clause-refused : goal.push_whole-returns-in_err-rest-clause-refused
push_whole-returns-in_err-rest-clause-refused t c =
    let p = err_from_is_err_and c.from_residual.result c.from_residual.ensures.1 in
    let R = IsElement c.args.levels c.args.schema.now c.args.is c.args.name c.args.before.now in
    let F = IsFault c.args.levels c.args.schema.now c.args.is c.args.name c.args.before.now in
    rw (p.1, p.2) (on_memory _ _ _ (λ fault f. within_fault R F c.args.at c.args.octets.now fault f) c.in_err-rest.ensures.refused)

pub push_whole-returns-clause-refused : goal.push_whole-returns-clause-refused
push_whole-returns-clause-refused t c =
    whole_fault (IsElement c.args.levels c.args.schema.now c.args.is c.args.name c.args.before.now) (IsFault c.args.levels c.args.schema.now c.args.is c.args.name c.args.before.now)
    c.args.depth c.args.at c.args.octets.now c.in_ok-rest.rest.now c.args.items.now.items c.push_element.new.items.items c.all_read.result c.in_ok-rest.ensures.walked
    c.all_read.ensures.some c.all_read.ensures.refused

pub push_wrapped-returns-in_err-push_whole-clause-refused : goal.push_wrapped-returns-in_err-push_whole-clause-refused
push_wrapped-returns-in_err-push_whole-clause-refused t c =
    let p = err_from_is_err_and c.from_residual-in_err-push_whole.result c.from_residual-in_err-push_whole.ensures.1 in
    rw (p.1, p.2)
    (on_memory _ _ _
    (λ fault f. inside_fault (IsElement c.args.levels c.args.schema.now) (IsFault c.args.levels c.args.schema.now) c.args.field c.args.more.now c.args.before.now
    c.args.head c.args.content.now c.args.rest.now fault c.requires.wrapped c.requires.tagged c.requires.headed f)
    c.in_err-push_whole.ensures.refused)

pub push_wrapped-returns-clause-refused : goal.push_wrapped-returns-clause-refused
push_wrapped-returns-clause-refused t c =
    on_fault c.push_fields.result _ _
    (λ fault f. wrapped_fault (IsElement c.args.levels c.args.schema.now) (IsFault c.args.levels c.args.schema.now) c.args.field c.args.more.now c.args.before.now
    c.args.head c.args.content.now c.args.rest.now (c.args.head.depth + 1) (c.args.head.at + c.args.head.header) c.push_item.new.items.items c.push_whole.new.items.items
    fault c.requires.wrapped c.requires.tagged c.requires.headed c.in_ok-push_whole.ensures.walked f)
    c.push_fields.ensures.refused

pub push_wrapped-returns-clause-walked : goal.push_wrapped-returns-clause-walked
push_wrapped-returns-clause-walked t c =
    let head = c.args.head in
    let content = c.args.content.now in
    let h = c.requires.headed in
    let R = IsElement c.args.levels c.args.schema.now in
    let items = c.args.items.now.items in
    let begun = c.push_item.new.items.items in
    let within_it = c.push_whole.new.items.items in
    let ended = c.push_item-2.new.items.items in
    let field = c.args.field in
    on_ok c.push_fields.result _ _
    (λ v. wrapped_walked R field c.args.more.now c.args.before.now head.tag head.depth head.at (head.at + head.header + length content) content c.args.rest.now
    items begun within_it ended c.push_fields.new.items.items c.requires.wrapped c.requires.tagged
    (omega (arith, h.header, tlv_size head.tag content))
    (subst (λ n. begun ≡ items ++ item (form.Begin nodes.Wrap) n head.depth head.tag head.at (length content) ∷ []) c.requires.named
    (c.in_ok-push_item.ensures ∙ ap (λ (n : ℕ). items ++ item (form.Begin nodes.Wrap) head.name head.depth head.tag head.at n ∷ []) h.size))
    (subst (λ (n : ℕ). Walked (R field.is field.name c.args.before.now) content (head.depth + 1) (head.at + n) begun within_it) h.header c.in_ok-push_whole.ensures.walked)
    (subst (λ n. ended ≡ within_it ++ item (form.End nodes.Wrap) n head.depth head.tag head.at (length content) ∷ []) c.requires.named
    (c.in_ok-push_item-2.ensures ∙ ap (λ (n : ℕ). within_it ++ item (form.End nodes.Wrap) head.name head.depth head.tag head.at n ∷ []) h.size))
    v)
    c.push_fields.ensures.walked

pub push_held-returns-in-Err-clause-walked : goal.push_held-returns-in-Err-clause-walked
push_held-returns-in-Err-clause-walked t c =
    let items = c.args.items.now.items in
    let ended = c.push_held-in-Err.new.items.items in
    let head = c.args.head in
    let content = c.args.content.now in
    let schema = c.args.schema.now in
    let R = IsElement c.args.levels schema in
    let case = c.in-Some.case.now in
    on_ok c.push_held-in-Err.result _ _
    (λ w. subst (λ (cs : List Case). Walked (IsHeld R head.name c.args.before.now content cs) (tlv head.tag content) head.depth head.at items ended)
    (sym c.in-Some.ensures.cases.0)
    (held_later R head.name c.args.before.now content case c.in-Some.more.now (tlv head.tag content) head.depth head.at items ended
    (λ so. subst (λ n. IsNone (R case.is n []) content) c.called.ensures
    (refused_or_memory c.args.levels schema case.is c.called.result [] (head.at + head.header) content c.in-Err.fault (omega (arith, c.requires.headed.room))
    c.in-Err.ensures.refused c.if-is_out_of_memory.ensures))
    w))
    c.push_held-in-Err.ensures.walked

pub push_held-returns-clause-walked : goal.push_held-returns-clause-walked
push_held-returns-clause-walked t c =
    let case = c.in-Some.case.now in
    let before = c.args.before.now in
    let head = c.args.head in
    let content = c.args.content.now in
    let R = IsElement c.args.levels c.args.schema.now in
    let items = c.args.items.now.items in
    let inside = c.push_whole.new.items.items in
    let begun = c.push_item-in-Ok.new.items.items in
    let within = c.push_items.new.items.items in
    let ended = c.push_item-in-Ok-2.new.items.items in
    subst (λ (cs : List Case). Walked (IsHeld R head.name before content cs) (tlv head.tag content) head.depth head.at items ended) (sym c.in-Some.ensures.cases.0)
    (held_here R case c.in-Some.more.now before head content inside items begun within ended c.requires.tagged c.requires.headed
    c.if-not-applies.ensures
    (subst (λ n. Walked (R case.is n []) content (head.depth + 1) (head.at + head.header) [] inside) c.called.ensures
    (subst (λ (l : List Item). Walked (R case.is c.called.result []) content (head.depth + 1) (head.at + head.header) l inside) c.new-inside.ensures.items
    c.in-Ok.ensures.walked))
    c.in_ok-push_item-in-Ok.ensures
    (c.in_ok-push_items-in-Ok.ensures ∙ ap (λ (l : List Item). begun ++ l) c.deref.ensures.value)
    c.in_ok-push_item-in-Ok-2.ensures)
