use Rattle.std.proofs.Common.{suc, take, drop}
use Rattle.krb_show_pac.specs.Holders.{FailsAsKdcs}
use Rattle.krb_show_pac.proofs.Lists.{all_until, cut_at}
use Rattle.krb_show_pac.proofs.holders.first_failing.Goals as goal

pub returns-then-fails_as_kdcs : goal.returns-then-fails_as_kdcs
returns-then-fails_as_kdcs c = record {
  front = take c.loop-key.key-index c.args.keys.now;
  back = drop (suc c.loop-key.key-index) c.args.keys.now;
  among = cut_at c.args.keys.now c.loop-key.key-index c.key-item.result c.loop-key-test.true c.key-item.is;
  first = c.loop-key.invariant;
  holds = rw c.if-fails_as_kdcs.true at c.fails_as_kdcs.ensures;
}

pub loop-key-preserved : goal.loop-key-preserved
loop-key-preserved c =
    all_until (λ key. FailsAsKdcs c.args.checksum.now c.args.opener.now key → ⊥) c.args.keys.now
    c.loop-key.key-index c.key-item.result c.loop-key-test.true c.key-item.is c.loop-key.invariant (rw c.if-fails_as_kdcs.false at c.fails_as_kdcs.ensures)
