use Rattle.krb_show.specs.declared.rows.walk.Walk.TheVariants as walks
use Rattle.krb_show_pages.proofs.replies.page_by_alternative.Goals as goal

pub returns : goal.returns
returns c =
    let w = c.in_ok-items.ensures.found in
    let h = rw (c.new-label.ensures, c.new-page.ensures.items, c.deref.ensures.value) at c.in_ok-show_struct.ensures.ok in
    record {
      found = (
        record { is = w.0; row = w.1; items = c.in_ok-items.items.items; are = w.2 },
        (h.0, h.1, (h.2.0, record { walk = walks.Items c.in_ok-items.items; is_walk = w; shown = h.2.1 }, h.2.2)),
      );
      refused = tt;
      no_device = tt;
    }
