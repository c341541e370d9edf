use Rattle.std.proofs.lemmas.Int.{to_z-of_z}
use Rattle.krb_c.proofs.crypto.krb_decrypt.Goals as goal

pub returns : goal.returns
returns c = let etype = c.ranges.etype in let usage = c.ranges.usage in simp to_z-of_z at c.decrypt.ensures
