use Rattle.std.proofs.Common.{take}
use Rattle.krb_accept_rules.specs.Firsts.{EachIs}
use Rattle.krb_der.specs.contracts.sequence_of.Asn1SequenceOfDerEncode.TheImpl.{ghosts as list_of}
use Rattle.krb_types.specs.contracts.data_types.authorization_data.AuthorizationDataInner.{the_row}
use Rattle.krb_types.specs.contracts.data_types.authorization_data.AuthorizationDataInnerDerEncode.TheImpl.{dict as laws, ghosts as element}
use Rattle.krb_accept.specs.PacPlaces.{IsPacOf, IsFree, MatchHeld, OneOf}
use Rattle.krb_accept.proofs.pac_places.held_by_each.Given as goal

abbrev pub invariant-elements : goal.invariant-elements
invariant-elements l =
    MatchHeld l.found (EachIs (IsFree (list_of the_row element laws) 15) (take l.element-index l.elements))
    (OneOf (IsFree (list_of the_row element laws) 15) IsPacOf (take l.element-index l.elements))
