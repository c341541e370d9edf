use Rattle.std.proofs.Common.{take}
use Rattle.krb_show_pac.specs.Holders.{IsNoneOf}
use Rattle.krb_show_pac.proofs.holders.is_one_of.Given as goal

abbrev pub invariant-loop-other : goal.invariant-loop-other
invariant-loop-other l = IsNoneOf l.key (take l.other-index l.keys)
