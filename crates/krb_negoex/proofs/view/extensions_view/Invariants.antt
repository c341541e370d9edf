use Rattle.krb_negoex.specs.View.{extension_view_layout}
use Rattle.krb_negoex.specs.View.{extension_of}
use Rattle.krb_negoex.specs.View.{AreThere}
use Rattle.krb_negoex.proofs.view.extensions_view.Given as goal

abbrev pub invariant-elements : goal.invariant-elements
invariant-elements l = AreThere extension_view_layout.part extension_of 12 l.message l.offset l.n
