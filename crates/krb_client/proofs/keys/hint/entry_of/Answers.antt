use Rattle.std.proofs.Common.{suc, take, drop}
use Rattle.krb_client.proofs.Firsts.{cut_at}
use Rattle.krb_client.proofs.keys.hint.entry_of.Goals as goal

pub returns-then-is_entry_of : goal.returns-then-is_entry_of
returns-then-is_entry_of c = record {
  front = take c.loop-entry.entry-index c.args.entries.now;
  back = drop (suc c.loop-entry.entry-index) c.args.entries.now;
  among = cut_at c.args.entries.now c.loop-entry.entry-index c.entry-item.result c.loop-entry-test.true c.entry-item.is;
  none_before = c.loop-entry.invariant;
  has = rw c.if-is_entry_of.true at c.is_entry_of.ensures;
}
