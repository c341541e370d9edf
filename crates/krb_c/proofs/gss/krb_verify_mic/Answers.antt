use Rattle.std.proofs.lemmas.Int.{to_z-of_z}
use Rattle.krb_c.proofs.gss.krb_verify_mic.Goals as goal

pub returns : goal.returns
returns c = let etype = c.ranges.etype in simp to_z-of_z at c.verify_mic.ensures
