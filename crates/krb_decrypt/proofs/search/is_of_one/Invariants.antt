use Rattle.std.proofs.Common.{take}
use Rattle.krb_decrypt.specs.Search.{NoneIsOf}
use Rattle.krb_decrypt.proofs.search.is_of_one.Given as goal

abbrev pub invariant-loop-key : goal.invariant-loop-key
invariant-loop-key l = NoneIsOf l.suite (take l.key-index l.keys)
