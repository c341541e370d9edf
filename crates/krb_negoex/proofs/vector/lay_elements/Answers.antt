use Rattle.std.proofs.Common.{◌+◌, ◌∙◌, take, inl, inr, ⊎_elim}
use Rattle.krb_negoex.proofs.Steps.{more_laid, one_more, no_place}
use Rattle.krb_negoex.proofs.vector.lay_elements.Goals as goal

pub returns-in-Err-clause-rejected : goal.returns-in-Err-clause-rejected
returns-in-Err-clause-rejected g c =
    let T = g.T.Lay.layout in
    ⊎_elim (λ m. inl m) (λ r. inr (
      r.0,
      no_place T.fixed T.payload T.payload_size T.laid c.args.first c.args.elements.now c.elements.element-index c.element-item.result c.elements.end
          c.elements-test.true c.element-item.is c.elements.invariant.place r.1,
    )) c.in-Err.ensures.rejected

pub elements-preserved : goal.elements-preserved
elements-preserved g c =
    let T = g.T.Lay.layout in
    let items = c.args.elements.now in
    let x = c.element-item.result in
    let i = c.elements.element-index in
    more_laid T.payload_size T.fixed T.payload T.laid c.args.first c.elements.end c.in-Ok.next c.args.out.now.items c.elements.out.items c.elements.payloads.items
    c.lay.new.fixed_part.items c.lay.new.payload_part.items (take i items) x (take (i + 1) items) (one_more items i x c.elements-test.true c.element-item.is) c.elements.invariant c.in-Ok.ensures.laid
    (c.in-Ok.ensures.end ∙ T.after_is c.elements.end x) c.in-Ok.ensures.fixed c.in-Ok.ensures.payload
