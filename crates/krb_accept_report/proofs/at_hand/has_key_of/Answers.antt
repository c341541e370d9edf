use Rattle.std.proofs.Common.{suc, take, drop, subst}
use Rattle.std.proofs.lemmas.List.{take_all}
use Rattle.krb_accept_rules.specs.Firsts.{NoneIs}
use Rattle.krb_accept_rules.specs.Keys.{IsOfServer}
use Rattle.krb_accept_rules.proofs.Firsts.{cut_at, none_first}
use Rattle.krb_accept_report.proofs.at_hand.has_key_of.Goals as goal

pub returns-then-is_of_server : goal.returns-then-is_of_server
returns-then-is_of_server c = (
  c.key-item.result,
  record {
    front = take c.loop-key.key-index c.args.keys.now;
    back = drop (suc c.loop-key.key-index) c.args.keys.now;
    among = cut_at c.args.keys.now c.loop-key.key-index c.key-item.result c.loop-key-test.true c.key-item.is;
    none_before = c.loop-key.invariant;
    has = rw c.if-is_of_server.true at c.is_of_server.ensures;
  },
)

pub returns : goal.returns
returns c = none_first (IsOfServer c.args.request.now) c.args.keys.now
    (subst (NoneIs (IsOfServer c.args.request.now)) (take_all c.loop-key.key-index c.args.keys.now c.loop-key-test.false) c.loop-key.invariant)
