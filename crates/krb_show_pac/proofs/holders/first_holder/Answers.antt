use Rattle.std.proofs.Common.{suc, take, drop, rules}
use Rattle.krb_show_pac.specs.Holders.{HoldsUnder}
use Rattle.krb_show_pac.proofs.Lists.{all_until, cut_at}
use Rattle.krb_show_pac.proofs.holders.first_holder.Goals as goal

pub returns-then-holds_under : goal.returns-then-holds_under
returns-then-holds_under c = record {
  front = take c.loop-key.key-index c.args.keys.now;
  back = drop (suc c.loop-key.key-index) c.args.keys.now;
  among = cut_at c.args.keys.now c.loop-key.key-index c.key-item.result c.loop-key-test.true c.key-item.is;
  first = c.loop-key.invariant;
  holds = search rules;
}

pub loop-key-preserved : goal.loop-key-preserved
loop-key-preserved c =
    all_until (λ key. HoldsUnder c.args.checksum.now key → ⊥) c.args.keys.now c.loop-key.key-index c.key-item.result c.loop-key-test.true c.key-item.is
    c.loop-key.invariant (rw c.if-holds_under.false at c.holds_under.ensures)
