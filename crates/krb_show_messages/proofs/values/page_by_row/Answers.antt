use Rattle.krb_show.specs.declared.rows.walk.Walk.TheVariants as walks
use Rattle.krb_show_messages.proofs.values.page_by_row.Goals as goal

pub returns : goal.returns
returns c =
    let w = c.in_ok-items.ensures.found in
    record {
      found = (
        record { is = w.0; row = w.1; items = c.in_ok-items.items.items; are = w.2 },
        record { walk = walks.Items c.in_ok-items.items; is_walk = w; shown = rw (c.new-page.ensures.items, c.deref.ensures.value) at c.in_ok-push_items.ensures.ok },
      );
      refused = tt;
      no_device = tt;
    }
