use Rattle.std.proofs.Common.{suc, take, drop}
use Rattle.krb_client.proofs.Firsts.{cut_at}
use Rattle.krb_client.proofs.keys.secret.key_among.Goals as goal

pub returns-then-is_of_suite : goal.returns-then-is_of_suite
returns-then-is_of_suite c = record {
  front = take c.loop-key.key-index c.args.keys.now;
  back = drop (suc c.loop-key.key-index) c.args.keys.now;
  among = cut_at c.args.keys.now c.loop-key.key-index c.key-item.result c.loop-key-test.true c.key-item.is;
  none_before = c.loop-key.invariant;
  has = rw c.if-is_of_suite.true at c.is_of_suite.ensures;
}
