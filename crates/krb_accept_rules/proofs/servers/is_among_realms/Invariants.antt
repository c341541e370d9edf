use Rattle.std.proofs.Common.{◌≡◌, take}
use Rattle.krb_accept_rules.specs.Firsts.{NoneIs}
use Rattle.krb_accept_rules.proofs.servers.is_among_realms.Given as goal

abbrev pub invariant-loop-other : goal.invariant-loop-other
invariant-loop-other l = NoneIs (λ x. x ≡ l.realm) (take l.other-index l.realms)
