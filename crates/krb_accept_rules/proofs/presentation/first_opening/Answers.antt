use Rattle.std.proofs.Common.{suc, take, drop}
use Rattle.krb_accept_rules.proofs.Firsts.{cut_at}
use Rattle.krb_accept_rules.proofs.presentation.first_opening.Goals as goal

pub returns-in-Some-clause-first : goal.returns-in-Some-clause-first
returns-in-Some-clause-first g c =
    let opened = rw c.in-Some.is at c.in_ok-ticket.ensures in
    record {
      front = take c.loop-key.key-index c.args.keys.now;
      back = drop (suc c.loop-key.key-index) c.args.keys.now;
      among = cut_at c.args.keys.now c.loop-key.key-index c.key-item.result c.loop-key-test.true c.key-item.is;
      none_before = c.loop-key.invariant;
      has = (opened.0, (c.in-Some.ticket, opened.1.holds));
    }
