use Rattle.krb_der_core.proofs.tlv.+count_digits.Given as goal

abbrev pub decreases-count_digits : goal.decreases-count_digits
decreases-count_digits l = l.n
