use Rattle.std.proofs.Common.{take}
use Rattle.krb_negoex.proofs.Steps.{ElementsLaid}
use Rattle.krb_negoex.proofs.vector.lay_elements.Given as goal

abbrev pub invariant-elements : goal.invariant-elements
invariant-elements g l =
    let T = g.T.Lay.layout in
    ElementsLaid T.fixed T.payload T.payload_size T.laid l.first l.fn.out.items l.out.items l.payloads.items l.end (take l.element-index l.elements)
