use Rattle.std.proofs.Common.{suc, take, drop, rules}
use Rattle.krb_decrypt.proofs.Lists.{cut_at}
use Rattle.krb_decrypt.proofs.search.is_of_one.Goals as goal

pub returns-then-eq : goal.returns-then-eq
returns-then-eq c = record {
  front = take c.loop-key.key-index c.args.keys.now;
  key = c.key-item.result;
  back = drop (suc c.loop-key.key-index) c.args.keys.now;
  among = cut_at c.args.keys.now c.loop-key.key-index c.key-item.result c.loop-key-test.true c.key-item.is;
  of_suite = search rules;
}
