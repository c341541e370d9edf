use Rattle.std.proofs.Common.{take}
use Rattle.krb_accept_rules.specs.AuthenticatorRules.{IsWellFormed}
use Rattle.krb_accept_rules.specs.Firsts.{EachIs}
use Rattle.krb_accept_rules.proofs.elements.are_well_formed.Given as goal

abbrev pub invariant-loop-element : goal.invariant-loop-element
invariant-loop-element g l = EachIs (IsWellFormed g.O.Opening) (take l.element-index l.elements)
