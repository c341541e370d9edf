use Rattle.krb_accept.proofs.Pacs.{held_more}
use Rattle.krb_accept.proofs.pac_places.held_in_each.Goals as goal

pub elements-preserved : goal.elements-preserved
elements-preserved c =
    held_more _ _ c.args.elements.now c.elements.element-index c.element-item.result c.elements.found c.in_ok-held_in.field-0 c.both-found.result c.elements-test.true
    c.element-item.is c.both-found.ensures c.elements.invariant c.in_ok-held_in.ensures
