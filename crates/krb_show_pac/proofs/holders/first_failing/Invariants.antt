use Rattle.std.proofs.Common.{take}
use Rattle.krb_show_pac.specs.Holders.{FailsAsKdcs, NoneWhere}
use Rattle.krb_show_pac.proofs.holders.first_failing.Given as goal

abbrev pub invariant-loop-key : goal.invariant-loop-key
invariant-loop-key l = NoneWhere (FailsAsKdcs l.checksum l.opener) (take l.key-index l.keys)
