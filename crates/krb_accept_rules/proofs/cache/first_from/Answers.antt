use Rattle.std.proofs.Common.{rules}
use Rattle.std.proofs.lemmas.List.Sorted.{IsPartitionPoint-from_clause}
use Rattle.krb_accept_rules.proofs.Orders.{all_earlier, all_from, is_earlier, parted}
use Rattle.krb_accept_rules.proofs.cache.first_from.Goals as goal

pub returns-clause-earlier : goal.returns-clause-earlier
returns-clause-earlier c =
    let point = IsPartitionPoint-from_clause (is_earlier c.args.entry.now.seconds) _ _ c.partition_point.ensures.partitioned (parted c.args.entry.now.seconds c.args.entries.now c.requires) (λ a r q k. search rules) in
    all_earlier c.args.entry.now.seconds c.args.entries.now _ c.partition_point.ensures.bound point

pub returns-clause-from : goal.returns-clause-from
returns-clause-from c =
    let point = IsPartitionPoint-from_clause (is_earlier c.args.entry.now.seconds) _ _ c.partition_point.ensures.partitioned (parted c.args.entry.now.seconds c.args.entries.now c.requires) (λ a r q k. search rules) in
    all_from c.args.entry.now.seconds c.args.entries.now _ point
