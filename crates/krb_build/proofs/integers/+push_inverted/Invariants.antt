use Rattle.krb_build.proofs.integers.+push_inverted.Given as goal

abbrev pub decreases-push_inverted : goal.decreases-push_inverted
decreases-push_inverted l = l.n
