use Rattle.std.proofs.Common.{suc, take, drop}
use Rattle.krb_client.proofs.Firsts.{cut_at}
use Rattle.krb_client.proofs.keys.hint.first_info.Goals as goal

pub returns-then-is_info : goal.returns-then-is_info
returns-then-is_info c = record {
  front = take c.loop-element.element-index c.args.elements.now;
  back = drop (suc c.loop-element.element-index) c.args.elements.now;
  among = cut_at c.args.elements.now c.loop-element.element-index c.element-item.result c.loop-element-test.true c.element-item.is;
  none_before = c.loop-element.invariant;
  has = rw c.if-is_info.true at c.is_info.ensures;
}
