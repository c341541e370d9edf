use Rattle.krb_accept.proofs.Pacs.{each_more, each_nth, free_by_way_so, free_so, free_without_way, none_so, not_at_zero, not_free_nowhere}
use Rattle.krb_accept.proofs.pac_places.+free.Goals as goal

pub holds_free-returns-then-levels-eq0 : goal.holds_free-returns-then-levels-eq0
holds_free-returns-then-levels-eq0 t c = not_at_zero _ c.args.octets.now c.args.levels c.if-levels-eq0.true

pub holds_free-returns-in-Some : goal.holds_free-returns-in-Some
holds_free-returns-in-Some t c =
    free_so _ c.args.octets.now c.args.levels c.in-Some.inner c.items.result.now c.are_free.result c.if-levels-eq0.false
    (rw c.in-Some.is at c.in_ok-inner.ensures) c.items.ensures c.are_free.ensures

pub holds_free-returns-in-None : goal.holds_free-returns-in-None
holds_free-returns-in-None t c =
    none_so _ c.args.octets.now c.args.levels c.if-levels-eq0.false (rw c.in-None.is at c.in_ok-inner.ensures)

pub are_free-returns-then-not-branch : goal.are_free-returns-then-not-branch
are_free-returns-then-not-branch t c = λ each.
    (rw c.if-not-branch.true at c.in_ok-is_free.ensures)
    (each_nth _ c.args.elements.now c.elements.element-index c.element-item.result c.element-item.result c.elements-test.true c.element-item.is each)

pub are_free-elements-preserved : goal.are_free-elements-preserved
are_free-elements-preserved t c =
    each_more _ c.args.elements.now c.elements.element-index c.element-item.result c.elements-test.true c.element-item.is c.elements.invariant
    (rw c.if-not-branch.false at c.in_ok-is_free.ensures)

pub is_free-returns-in_default : goal.is_free-returns-in_default
is_free-returns-in_default t c = free_without_way _ c.args.levels c.args.element.now c.if-is_pac.ensures c.in_default.ensures

pub is_free-returns-in_default-reached : goal.is_free-returns-in_default-reached
is_free-returns-in_default-reached t c =
    not_free_nowhere _ c.args.levels c.args.element.now c.in-Some.way.now c.content_of.result.now c.content_of.ensures c.in-Some.ensures c.in_default-reached.ensures

pub is_free-returns : goal.is_free-returns
is_free-returns t c =
    free_by_way_so _ c.args.levels c.args.element.now c.in-Some.way.now c.content_of.result.now c.in-Some-reached.inner.now c.holds_free.result c.if-is_pac.ensures
    c.in-Some.ensures c.content_of.ensures c.in-Some-reached.ensures c.holds_free.ensures
