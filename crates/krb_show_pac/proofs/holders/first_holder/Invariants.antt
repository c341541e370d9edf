use Rattle.std.proofs.Common.{take}
use Rattle.krb_show_pac.specs.Holders.{HoldsUnderNone}
use Rattle.krb_show_pac.proofs.holders.first_holder.Given as goal

abbrev pub invariant-loop-key : goal.invariant-loop-key
invariant-loop-key l = HoldsUnderNone l.checksum (take l.key-index l.keys)
