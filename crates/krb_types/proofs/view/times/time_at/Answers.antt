use Rattle.std.proofs.Common.{refl, arith}
use Rattle.jiff_core.proofs.SignedLemmas.{signed_arith}
use Rattle.krb_types.proofs.Seconds.{never_before_year_0}
use Rattle.krb_types.proofs.view.times.time_at.Goals as goal

pub returns-then-date-lt0-clause-rejected : goal.returns-then-date-lt0-clause-rejected
returns-then-date-lt0-clause-rejected c = (refl, λ t real. never_before_year_0 c.args.date t (omega (arith, signed_arith, c.if-date-lt0.true)) real)
