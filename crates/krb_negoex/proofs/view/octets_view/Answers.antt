use Rattle.std.proofs.Common.{inr, arith}
use Rattle.krb_negoex.proofs.Viewed.{octets_found, octets_cut}
use Rattle.krb_negoex.proofs.view.octets_view.Goals as goal

pub returns-then-count-named-clause-rejected : goal.returns-then-count-named-clause-rejected
returns-then-count-named-clause-rejected c =
    inr (inr (inr (octets_cut c.args.octets.now c.in_ok-offset.trailing.now c.args.message.now c.split_at.result.1.now c.in_ok-offset.offset c.in_ok-count.count c.cut_short.result c.cut_short.ensures
    c.in_ok-offset.ensures.number.1 c.in_ok-offset.ensures.trailing c.in_ok-count.ensures.number.0 c.in_ok-count.ensures.number.1 (omega arith) c.split_at.ensures.back (omega arith))))

pub returns-clause-found : goal.returns-clause-found
returns-clause-found c =
    octets_found c.args.octets.now c.in_ok-offset.trailing.now c.args.message.now c.split_at.result.1.now c.split_at-2.result.0.now c.in_ok-offset.offset c.in_ok-count.count
    c.in_ok-offset.ensures.number.1 c.in_ok-offset.ensures.trailing c.in_ok-count.ensures.number.0 c.in_ok-count.ensures.number.1 (omega arith) c.split_at-2.ensures.front c.split_at.ensures.back (omega arith)
