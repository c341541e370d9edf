use Rattle.std.proofs.Common.{suc, take, drop, subst}
use Rattle.std.proofs.lemmas.List.{take_all}
use Rattle.krb_accept_rules.specs.Firsts.{NoneIs}
use Rattle.krb_accept_rules.specs.Servers.{NamesServer}
use Rattle.krb_accept_rules.proofs.Firsts.{cut_at, none_first}
use Rattle.krb_accept_rules.proofs.servers.is_named.Goals as goal

pub returns-then-names_server : goal.returns-then-names_server
returns-then-names_server c = (
  c.name-item.result,
  record {
    front = take c.loop-name.name-index c.args.names.now;
    back = drop (suc c.loop-name.name-index) c.args.names.now;
    among = cut_at c.args.names.now c.loop-name.name-index c.name-item.result c.loop-name-test.true c.name-item.is;
    none_before = c.loop-name.invariant;
    has = rw c.if-names_server.true at c.names_server.ensures;
  },
)

pub returns : goal.returns
returns c = none_first (NamesServer c.args.request.now) c.args.names.now
    (subst (NoneIs (NamesServer c.args.request.now)) (take_all c.loop-name.name-index c.args.names.now c.loop-name-test.false) c.loop-name.invariant)
