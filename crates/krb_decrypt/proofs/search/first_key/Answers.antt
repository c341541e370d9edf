use Rattle.std.proofs.Common.{suc, take, drop, arith, rules}
use Rattle.std.proofs.lemmas.List.{length-take}
use Rattle.krb_decrypt.proofs.Lists.{cut_at}
use Rattle.krb_decrypt.proofs.search.first_key.Goals as goal

pub returns-in-Some : goal.returns-in-Some
returns-in-Some c = record {
  front = take c.loop-index.index c.args.keys.now;
  key = c.index-keys-index.result;
  back = drop (suc c.loop-index.index) c.args.keys.now;
  among = cut_at c.args.keys.now c.loop-index.index c.index-keys-index.result c.loop-index-test.true c.index-keys-index.is;
  place = omega (arith, length-take c.loop-index.index c.args.keys.now, c.loop-index-test.true);
  first = c.loop-index.invariant;
  of_suite = search rules;
  usage = rw c.in-Some.is at c.in_ok-opened.ensures;
}
