use Rattle.std.proofs.Common.{◌≤◌, length, inr, arith}
use Rattle.std.proofs.lemmas.Result.{err_from_is_err_and}
use Rattle.krb_negoex.proofs.Steps.{more_read, element_rejected}
use Rattle.krb_negoex.proofs.vector.VecPart.read_part.Goals as goal

pub returns-in_err-element-clause-rejected : goal.returns-in_err-element-clause-rejected
returns-in_err-element-clause-rejected g c =
    let T = g.T.Lay.layout in
    let p = err_from_is_err_and c.from_residual-in_err-element.result c.from_residual-in_err-element.ensures.1 in
    let m = c.args.message.now in
    let inside : c.in_ok-offset.offset ≤ length m = omega arith in
    rw (p.1, p.2) (inr (inr (inr (element_rejected T.part T.rejects T.width c.args.octets.now c.in_ok-offset.trailing.now m c.elements.rest.now c.in_ok-offset.offset c.in_ok-count.count c.elements.counter
    c.elements.elements.items c.in_err-element.field-0.0 c.in_ok-offset.ensures.number.1 c.in_ok-offset.ensures.trailing c.in_ok-count.ensures.number.0 c.in_ok-count.ensures.number.1 inside (omega arith)
    c.elements.invariant c.in_err-element.ensures.rejected))))

pub elements-preserved : goal.elements-preserved
elements-preserved g c =
    let T = g.T.Lay.layout in
    more_read T.part T.width c.args.message.now c.elements.rest.now c.in_ok-element.next.now c.in_ok-offset.offset c.elements.counter c.elements.elements.items
    c.in_ok-element.element c.push.new.self.items c.in_ok-push.ensures.items c.in_ok-element.ensures.trailing c.elements.invariant c.in_ok-element.ensures.found
