use Rattle.std.proofs.Common.{take}
use Rattle.krb_show.specs.Tokens.{Begins}
use Rattle.krb_show.specs.Pages.{each_of}
use Rattle.krb_show.proofs.wrappers.show_items.Given as goal

abbrev pub invariant-loop-item : goal.invariant-loop-item
invariant-loop-item g l =
    each_of (g.T.Show.shows l.label) (take l.item-index l.items) l.fn.page.items l.page.items × Begins l.fn.page.items l.page.items
