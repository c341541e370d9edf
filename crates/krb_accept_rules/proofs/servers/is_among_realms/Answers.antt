use Rattle.std.proofs.Common.{◌≡◌, suc, take, drop, subst}
use Rattle.std.proofs.lemmas.List.{take_all}
use Rattle.krb_accept_rules.specs.Firsts.{NoneIs}
use Rattle.krb_accept_rules.proofs.Firsts.{cut_at, none_first}
use Rattle.krb_accept_rules.proofs.servers.is_among_realms.Goals as goal

pub returns-then-is_same_realm : goal.returns-then-is_same_realm
returns-then-is_same_realm c = (
  c.other-item.result,
  record {
    front = take c.loop-other.other-index c.args.realms.now;
    back = drop (suc c.loop-other.other-index) c.args.realms.now;
    among = cut_at c.args.realms.now c.loop-other.other-index c.other-item.result c.loop-other-test.true c.other-item.is;
    none_before = c.loop-other.invariant;
    has = rw c.if-is_same_realm.true at c.is_same_realm.ensures;
  },
)

pub returns : goal.returns
returns c = none_first (λ x. x ≡ c.args.realm.now) c.args.realms.now
    (subst (NoneIs (λ x. x ≡ c.args.realm.now)) (take_all c.loop-other.other-index c.args.realms.now c.loop-other-test.false) c.loop-other.invariant)
