use Rattle.std.proofs.Common.{take}
use Rattle.krb_accept_rules.specs.Firsts.{NoneIs}
use Rattle.krb_accept_rules.specs.Servers.{NamesServer}
use Rattle.krb_accept_rules.proofs.servers.is_named.Given as goal

abbrev pub invariant-loop-name : goal.invariant-loop-name
invariant-loop-name l = NoneIs (NamesServer l.request) (take l.name-index l.names)
