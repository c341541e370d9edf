use Rattle.std.proofs.Common.{take}
use Rattle.krb_decrypt.specs.Search.{OpensNone}
use Rattle.krb_decrypt.proofs.search.first_usage.Given as goal

abbrev pub invariant-loop-usage : goal.invariant-loop-usage
invariant-loop-usage l = OpensNone l.key l.cipher (take l.usage-index l.usages)
