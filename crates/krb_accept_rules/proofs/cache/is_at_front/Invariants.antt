use Rattle.std.proofs.Common.{◌≡◌, take}
use Rattle.krb_accept_rules.specs.Firsts.{NoneIs}
use Rattle.krb_accept_rules.proofs.cache.is_at_front.Given as goal

abbrev pub invariant-loop-other : goal.invariant-loop-other
invariant-loop-other l = NoneIs (λ x. x ≡ l.entry) (take l.other-index l.entries)
