use Rattle.std.proofs.Common.{take}
use Rattle.krb_client.specs.Firsts.{NoneIs}
use Rattle.krb_client.specs.KeyHints.{IsOfSuite}
use Rattle.krb_client.proofs.keys.secret.key_among.Given as goal

abbrev pub invariant-loop-key : goal.invariant-loop-key
invariant-loop-key l = NoneIs (IsOfSuite l.suite) (take l.key-index l.keys)
