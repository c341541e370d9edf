use Rattle.std.proofs.Common.{List, sym, subst, rules}
use Rattle.std.proofs.lemmas.Fn.{filter_same}
use Rattle.krb_accept_rules.specs.InOrder.{IsInOrder}
use Rattle.krb_accept_rules.specs.Remembering.{IsWithout}
use Rattle.krb_accept_rules.specs.declared.cache.Entry.{Entry}
use Rattle.krb_accept_rules.proofs.Among.{is_kept, without}
use Rattle.krb_accept_rules.proofs.Orders.{kept_in_order}
use Rattle.krb_accept_rules.proofs.cache.keep.Goals as goal

pub returns-clause-kept : goal.returns-clause-kept
returns-clause-kept c =
    let kept = filter_same _ (is_kept c.args.clock c.args.skew) _ (λ x b f' k. search rules) _ _ c.retain.ensures.filtered in
    subst (λ (l : List Entry). IsWithout c.args.clock c.args.skew c.args.entries.now.items l) (sym kept) (without c.args.clock c.args.skew c.args.entries.now.items)

pub returns-clause-order : goal.returns-clause-order
returns-clause-order c =
    let kept = filter_same _ (is_kept c.args.clock c.args.skew) _ (λ x b f' k. search rules) _ _ c.retain.ensures.filtered in
    subst (λ (l : List Entry). IsInOrder l) (sym kept) (kept_in_order (is_kept c.args.clock c.args.skew) c.args.entries.now.items c.requires)
