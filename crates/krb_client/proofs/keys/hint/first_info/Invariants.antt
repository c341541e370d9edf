use Rattle.std.proofs.Common.{take}
use Rattle.krb_client.specs.Firsts.{NoneIs}
use Rattle.krb_client.specs.KeyHints.{IsInfo}
use Rattle.krb_client.proofs.keys.hint.first_info.Given as goal

abbrev pub invariant-loop-element : goal.invariant-loop-element
invariant-loop-element l = NoneIs IsInfo (take l.element-index l.elements)
