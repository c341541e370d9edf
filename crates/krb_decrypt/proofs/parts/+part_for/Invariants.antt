use Rattle.krb_decrypt.proofs.parts.+part_for.Given as goal

abbrev pub decreases-part_for : goal.decreases-part_for
decreases-part_for l = l.most
