use Rattle.krb_accept_rules.proofs.Orders.{put_at, with_put}
use Rattle.krb_accept_rules.proofs.cache.add.Goals as goal

pub returns-clause-order : goal.returns-clause-order
returns-clause-order c =
    let earlier = rw c.as_slice.ensures.value at c.first_from-place.ensures.earlier in
    let later = rw c.as_slice.ensures.value at c.first_from-place.ensures.from in
    rw c.in_ok-put.ensures.ok (put_at c.args.entries.now.items c.first_from-place.result c.args.entry c.requires earlier later)

pub returns-clause-ok : goal.returns-clause-ok
returns-clause-ok c = rw c.in_ok-put.ensures.ok (with_put c.args.entries.now.items c.first_from-place.result c.args.entry)
