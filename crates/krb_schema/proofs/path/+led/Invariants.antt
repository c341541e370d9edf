use Rattle.krb_schema.proofs.path.+led.Given as goal

abbrev pub decreases-led : goal.decreases-led
decreases-led l = l.levels
