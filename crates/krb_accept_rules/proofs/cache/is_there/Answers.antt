use Rattle.std.proofs.lemmas.List.{take_rest}
use Rattle.krb_accept_rules.proofs.Orders.{anywhere, back_in_order}
use Rattle.krb_accept_rules.proofs.cache.is_there.Goals as goal

pub is_at_front-requires : goal.is_at_front-requires
is_at_front-requires c =
    rw (take_rest c.args.entries.now c.first_from-start.result) (back_in_order c.args.entries.now c.first_from-start.result c.requires)

pub returns : goal.returns
returns c = anywhere c.is_at_front.result c.args.entries.now c.first_from-start.result c.args.entry.now c.first_from-start.ensures.earlier
    (rw (take_rest c.args.entries.now c.first_from-start.result) at c.is_at_front.ensures)
