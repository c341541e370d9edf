use Rattle.std.proofs.Common.{take}
use Rattle.krb_decrypt.specs.Search.{NoneOpens}
use Rattle.krb_decrypt.proofs.search.first_key.Given as goal

abbrev pub invariant-loop-index : goal.invariant-loop-index
invariant-loop-index l = NoneOpens l.suite l.cipher l.usages (take l.index l.keys)
