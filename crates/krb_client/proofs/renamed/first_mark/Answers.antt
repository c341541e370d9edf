use Rattle.std.proofs.Common.{suc, take, drop}
use Rattle.krb_client.proofs.Firsts.{cut_at}
use Rattle.krb_client.proofs.renamed.first_mark.Goals as goal

pub returns-then-is_mark : goal.returns-then-is_mark
returns-then-is_mark c = record {
  front = take c.loop-element.element-index c.args.elements.now;
  back = drop (suc c.loop-element.element-index) c.args.elements.now;
  among = cut_at c.args.elements.now c.loop-element.element-index c.element-item.result c.loop-element-test.true c.element-item.is;
  none_before = c.loop-element.invariant;
  has = rw c.if-is_mark.true at c.is_mark.ensures;
}
