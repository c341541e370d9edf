use Rattle.krb_der_x509.proofs.object_identifier.+push_continued.Given as goal

abbrev pub decreases-push_continued : goal.decreases-push_continued
decreases-push_continued l = l.n
