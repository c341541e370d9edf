use Rattle.krb_der_core.proofs.unsigned.+first_digit.Given as goal

abbrev pub decreases-first_digit : goal.decreases-first_digit
decreases-first_digit l = l.n
