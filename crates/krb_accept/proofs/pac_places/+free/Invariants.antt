use Rattle.std.proofs.Common.{◌+◌, ◌*◌, take}
use Rattle.krb_accept_rules.specs.Firsts.{EachIs}
use Rattle.krb_der.specs.contracts.sequence_of.Asn1SequenceOfDerEncode.TheImpl.{ghosts as list_of}
use Rattle.krb_types.specs.contracts.data_types.authorization_data.AuthorizationDataInner.{the_row}
use Rattle.krb_types.specs.contracts.data_types.authorization_data.AuthorizationDataInnerDerEncode.TheImpl.{dict as laws, ghosts as element}
use Rattle.krb_accept.specs.PacPlaces.{IsFree}
use Rattle.krb_accept.proofs.pac_places.+free.Given as goal

abbrev pub decreases-holds_free : goal.decreases-holds_free
decreases-holds_free l = 3 * l.levels

abbrev pub decreases-are_free : goal.decreases-are_free
decreases-are_free l = 3 * l.levels + 2

abbrev pub decreases-is_free : goal.decreases-is_free
decreases-is_free l = 3 * l.levels + 1

abbrev pub invariant-are_free-elements : goal.invariant-are_free-elements
invariant-are_free-elements l = EachIs (IsFree (list_of the_row element laws) l.levels) (take l.element-index l.elements)
