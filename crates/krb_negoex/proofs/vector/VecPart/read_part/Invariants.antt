use Rattle.krb_negoex.proofs.Steps.{ElementsRead}
use Rattle.krb_negoex.proofs.vector.VecPart.read_part.Given as goal

abbrev pub invariant-elements : goal.invariant-elements
invariant-elements g l = ElementsRead g.T.Lay.layout.part g.T.Lay.layout.width l.message l.rest l.offset l.counter l.elements.items
