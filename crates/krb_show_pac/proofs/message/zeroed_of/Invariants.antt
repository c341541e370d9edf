use Rattle.std.proofs.Common.{take}
use Rattle.krb_der.specs.contracts.sequence_of.Asn1SequenceOfDerEncode.TheImpl.{ghosts}
use Rattle.krb_types.specs.contracts.data_types.authorization_data.AuthorizationDataInner.{the_row}
use Rattle.krb_types.specs.contracts.data_types.authorization_data.AuthorizationDataInnerDerEncode.TheImpl as inner
use Rattle.krb_show_pac.specs.Message.{NoneHoldsPac}
use Rattle.krb_show_pac.proofs.message.zeroed_of.Given as goal

abbrev pub invariant-loop-index : goal.invariant-loop-index
invariant-loop-index l =
    NoneHoldsPac (ghosts the_row inner.ghosts inner.dict).is_value (ghosts the_row inner.ghosts inner.dict).enc (take l.index l.elements)
