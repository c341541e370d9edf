use Rattle.std.proofs.Common.{◌≡◌, take}
use Rattle.krb_accept_rules.specs.Firsts.{NoneIs}
use Rattle.krb_accept_rules.proofs.names.is_among.Given as goal

abbrev pub invariant-loop-other : goal.invariant-loop-other
invariant-loop-other l = NoneIs (λ x. x ≡ l.address) (take l.other-index l.addresses)
