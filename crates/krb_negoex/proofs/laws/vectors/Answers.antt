use Rattle.krb_negoex.specs.SameLayout.{same_layout}
use Rattle.krb_negoex.proofs.laws.vectors.Goals as goal

pub returns-clause-layout : goal.returns-clause-layout
returns-clause-layout g c = same_layout _
