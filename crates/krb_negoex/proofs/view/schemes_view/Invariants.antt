use Rattle.krb_negoex.specs.GuidLayout.{guid}
use Rattle.krb_negoex.specs.View.{scheme_of}
use Rattle.krb_negoex.specs.View.{AreThere}
use Rattle.krb_negoex.proofs.view.schemes_view.Given as goal

abbrev pub invariant-elements : goal.invariant-elements
invariant-elements l = AreThere guid.part scheme_of 16 l.message l.offset l.n
