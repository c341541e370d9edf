use Rattle.std.proofs.Common.{w32}
use Rattle.std.proofs.lemmas.Int.{to_z-of_z}
use Rattle.krb_c.proofs.parts.krb_seal_tgs_rep_part.Goals as goal

pub returns : goal.returns
returns c = rw (to_z-of_z w32 c.args.etype c.ranges.etype, to_z-of_z w32 c.args.usage c.ranges.usage) at c.seal.ensures
