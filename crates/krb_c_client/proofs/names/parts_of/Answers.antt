use Rattle.std.proofs.Common.{inr, refl}
use Rattle.krb_c_client.specs.Names.{no_realm}
use Rattle.krb_c_client.proofs.names.parts_of.Goals as goal

pub returns-in-None-clause-refused : goal.returns-in-None-clause-refused
returns-in-None-clause-refused c = inr (refl, no_realm c.in-Ok.found.components.items (rw c.in-None.ensures at c.in-Ok.ensures.found))
