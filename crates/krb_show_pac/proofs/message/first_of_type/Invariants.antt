use Rattle.std.proofs.Common.{take}
use Rattle.krb_show_pac.specs.Message.{NoneIs}
use Rattle.krb_show_pac.proofs.message.first_of_type.Given as goal

abbrev pub invariant-loop-index : goal.invariant-loop-index
invariant-loop-index l = NoneIs l.number (take l.index l.elements)
