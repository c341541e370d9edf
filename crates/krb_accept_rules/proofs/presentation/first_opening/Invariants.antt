use Rattle.std.proofs.Common.{take}
use Rattle.krb_accept_rules.specs.Firsts.{NoneIs}
use Rattle.krb_accept_rules.specs.Presenting.{OpensTicket}
use Rattle.krb_accept_rules.proofs.presentation.first_opening.Given as goal

abbrev pub invariant-loop-key : goal.invariant-loop-key
invariant-loop-key g l = NoneIs (OpensTicket g.O.Opening l.request) (take l.key-index l.keys)
