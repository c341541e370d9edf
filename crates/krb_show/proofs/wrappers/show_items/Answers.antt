use Rattle.std.proofs.Common.{sym, subst}
use Rattle.std.proofs.lemmas.List.{take_more, take_all}
use Rattle.krb_show.specs.Pages.{each_of}
use Rattle.krb_show.proofs.Growing.{begins_self, begins_more, each_more}
use Rattle.krb_show.proofs.wrappers.show_items.Goals as goal

pub loop-item-init : goal.loop-item-init
loop-item-init g c = (λ i. c.args.page.now.items, begins_self c.args.page.now.items)

pub loop-item-preserved : goal.loop-item-preserved
loop-item-preserved g c = (
  rw (take_more c.args.items.now c.loop-item.item-index c.item-item.result c.loop-item-test.true, sym c.item-item.is)
      (each_more _ _ _ _ _ _ c.loop-item.invariant.0 (c.in_default.ensures).ok),
  begins_more _ _ _ c.loop-item.invariant.1 (c.in_default.ensures).kept,
)

pub returns-clause-ok : goal.returns-clause-ok
returns-clause-ok g c =
    subst (λ items. each_of (g.T.Show.shows c.args.label.now) items c.args.page.now.items c.loop-item.page.items)
    (take_all c.loop-item.item-index c.args.items.now c.loop-item-test.false) c.loop-item.invariant.0
