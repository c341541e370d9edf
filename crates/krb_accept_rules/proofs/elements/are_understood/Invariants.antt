use Rattle.std.proofs.Common.{take}
use Rattle.krb_accept_rules.specs.AuthenticatorRules.{IsUnderstood}
use Rattle.krb_accept_rules.specs.Firsts.{EachIs}
use Rattle.krb_accept_rules.proofs.elements.are_understood.Given as goal

abbrev pub invariant-loop-element : goal.invariant-loop-element
invariant-loop-element l = EachIs (IsUnderstood l.known) (take l.element-index l.elements)
