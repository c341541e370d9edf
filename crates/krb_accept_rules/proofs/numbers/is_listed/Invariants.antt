use Rattle.std.proofs.Common.{◌≡◌, pos, take}
use Rattle.krb_accept_rules.specs.Firsts.{NoneIs}
use Rattle.krb_accept_rules.proofs.numbers.is_listed.Given as goal

abbrev pub invariant-loop-number : goal.invariant-loop-number
invariant-loop-number l = NoneIs (λ n. l.integer ≡ pos n) (take l.number-index l.numbers)
