use Rattle.std.proofs.Common.{◌≡◌, ◌-◌}
use Rattle.krb_pac_contents.specs.Referents.{after_sids}
use Rattle.krb_pac_contents.proofs.referents.after.Given as goal

abbrev pub invariant-sids : goal.invariant-sids
invariant-sids l = after_sids l.fn.count l.fn.octets ≡ after_sids (l.count - l.n) l.rest
