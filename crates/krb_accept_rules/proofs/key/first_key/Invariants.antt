use Rattle.std.proofs.Common.{take}
use Rattle.krb_accept_rules.specs.Firsts.{NoneIs}
use Rattle.krb_accept_rules.specs.Keys.{Fits}
use Rattle.krb_accept_rules.proofs.key.first_key.Given as goal

abbrev pub invariant-loop-key : goal.invariant-loop-key
invariant-loop-key l = NoneIs (Fits l.request l.sought) (take l.key-index l.keys)
