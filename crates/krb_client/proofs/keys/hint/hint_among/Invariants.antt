use Rattle.std.proofs.Common.{take}
use Rattle.krb_client.specs.Firsts.{NoneIs}
use Rattle.krb_client.specs.KeyHints.{HasEntry}
use Rattle.krb_client.proofs.keys.hint.hint_among.Given as goal

abbrev pub invariant-loop-suite : goal.invariant-loop-suite
invariant-loop-suite l = NoneIs (HasEntry l.entries) (take l.suite-index l.suites)
