use Rattle.std.proofs.Common.{add-one}
use Rattle.krb_show_pac.proofs.Lists.{cut_at}
use Rattle.krb_show_pac.proofs.message.first_of_type.Goals as goal

pub returns-then-is_of_type : goal.returns-then-is_of_type
returns-then-is_of_type c = record {
  among = rw (c.split_at.ensures.front, c.split_at-then-is_of_type.ensures.back, add-one)
      (cut_at c.args.elements.now c.loop-index.index c.index-elements-index.result c.loop-index-test.true c.index-elements-index.is);
  first = rw c.split_at.ensures.front c.loop-index.invariant;
  is = c.is_of_type.ensures.0 c.if-is_of_type.true;
}
