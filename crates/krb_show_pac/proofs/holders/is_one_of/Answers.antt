use Rattle.std.proofs.Common.{suc, take, drop, rules}
use Rattle.krb_show_pac.proofs.Lists.{cut_at}
use Rattle.krb_show_pac.proofs.holders.is_one_of.Goals as goal

pub returns-then-are_same : goal.returns-then-are_same
returns-then-are_same c = record {
  front = take c.loop-other.other-index c.args.keys.now;
  other = c.other-item.result;
  back = drop (suc c.loop-other.other-index) c.args.keys.now;
  among = cut_at c.args.keys.now c.loop-other.other-index c.other-item.result c.loop-other-test.true c.other-item.is;
  same = search rules;
}
