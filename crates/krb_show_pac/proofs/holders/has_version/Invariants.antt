use Rattle.std.proofs.Common.{◌≡◌, length}
use Rattle.krb_show_pac.specs.Holders.{has_version}
use Rattle.krb_show_pac.proofs.holders.has_version.Given as goal

-- those that are left have it where all have
abbrev pub invariant-loop-rest : goal.invariant-loop-rest
invariant-loop-rest l = has_version l.fn.name ≡ has_version l.rest

abbrev pub decreases-loop-rest : goal.decreases-loop-rest
decreases-loop-rest l = length l.rest
