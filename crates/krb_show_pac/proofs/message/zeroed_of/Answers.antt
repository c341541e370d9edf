use Rattle.std.proofs.Common.{add-one, suc, take, drop}
use Rattle.krb_show_pac.specs.Message.{Place}
use Rattle.krb_show_pac.proofs.Lists.{all_until, cut_at}
use Rattle.krb_show_pac.proofs.message.zeroed_of.Goals as goal

pub returns-in-Some : goal.returns-in-Some
returns-in-Some c =
    let zeroed = rw c.in-Some.is at c.in_ok-zeroed.ensures in
    let message = rw (c.deref.ensures.value, c.split_at.ensures.front, c.split_at-in-Some.ensures.back, add-one c.loop-index.index) at c.in_ok-octets.ensures in
    let p : Place = record {
      front = take c.loop-index.index c.args.elements.now;
      outer = c.index-elements-index.result;
      back = drop (suc c.loop-index.index) c.args.elements.now;
      inner_front = zeroed.0;
      pac = zeroed.1;
      inner_back = zeroed.2;
    } in (
      p,
      record {
        among = cut_at c.args.elements.now c.loop-index.index c.index-elements-index.result c.loop-index-test.true c.index-elements-index.is;
        first = c.loop-index.invariant;
        holds = zeroed.3;
      },
      zeroed.4,
      rw (← zeroed.5) message,
    )

pub loop-index-preserved : goal.loop-index-preserved
loop-index-preserved c =
    all_until _ c.args.elements.now c.loop-index.index c.index-elements-index.result c.loop-index-test.true c.index-elements-index.is c.loop-index.invariant
    (rw c.in_default.is at c.in_ok-zeroed.ensures)
