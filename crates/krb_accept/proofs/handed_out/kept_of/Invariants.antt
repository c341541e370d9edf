use Rattle.std.proofs.Common.{take}
use Rattle.krb_der.specs.contracts.sequence_of.Asn1SequenceOfDerEncode.TheImpl.{ghosts as list_of}
use Rattle.krb_types.specs.contracts.data_types.authorization_data.AuthorizationDataInner.{the_row}
use Rattle.krb_types.specs.contracts.data_types.authorization_data.AuthorizationDataInnerDerEncode.TheImpl.{dict as laws, ghosts as element}
use Rattle.krb_accept.specs.PacPlaces.{AreKept, IsFree}
use Rattle.krb_accept.proofs.handed_out.kept_of.Given as goal

abbrev pub invariant-elements : goal.invariant-elements
invariant-elements l = AreKept (IsFree (list_of the_row element laws) 16) (take l.element-index l.elements) l.kept.items
