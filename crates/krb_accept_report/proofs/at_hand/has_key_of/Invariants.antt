use Rattle.std.proofs.Common.{take}
use Rattle.krb_accept_rules.specs.Firsts.{NoneIs}
use Rattle.krb_accept_rules.specs.Keys.{IsOfServer}
use Rattle.krb_accept_report.proofs.at_hand.has_key_of.Given as goal

abbrev pub invariant-loop-key : goal.invariant-loop-key
invariant-loop-key l = NoneIs (IsOfServer l.request) (take l.key-index l.keys)
