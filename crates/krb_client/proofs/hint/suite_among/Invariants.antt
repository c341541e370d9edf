use Rattle.std.proofs.Common.{take}
use Rattle.krb_client.specs.Firsts.{NoneIs}
use Rattle.krb_client.specs.Hints.{IsNumberOf}
use Rattle.krb_client.proofs.hint.suite_among.Given as goal

abbrev pub invariant-loop-suite : goal.invariant-loop-suite
invariant-loop-suite l = NoneIs (IsNumberOf l.number) (take l.suite-index l.suites)
