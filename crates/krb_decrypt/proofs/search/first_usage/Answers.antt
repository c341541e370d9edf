use Rattle.std.proofs.Common.{suc, take, drop}
use Rattle.std.proofs.Math.Seq.{split_at}
use Rattle.krb_decrypt.proofs.search.first_usage.Goals as goal

pub returns-in-Some : goal.returns-in-Some
returns-in-Some c = record {
  front = take c.loop-usage.usage-index c.args.usages.now;
  back = drop (suc c.loop-usage.usage-index) c.args.usages.now;
  among = split_at c.args.usages.now c.loop-usage.usage-index _ c.loop-usage-test.true;
  first = c.loop-usage.invariant;
  sealed = rw c.in-Some.is at c.in_ok-decrypted.ensures;
}
