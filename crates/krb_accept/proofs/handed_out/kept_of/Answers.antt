use Rattle.krb_accept.proofs.Pacs.{kept_more}
use Rattle.krb_accept.proofs.handed_out.kept_of.Goals as goal

pub elements-preserved : goal.elements-preserved
elements-preserved c =
    kept_more _ c.args.elements.now c.elements.element-index c.element-item.result c.elements.kept.items c.push_if_free.new.kept.items c.elements-test.true
    c.element-item.is c.elements.invariant c.in_ok-push_if_free.ensures
