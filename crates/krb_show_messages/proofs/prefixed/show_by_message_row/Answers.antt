use Rattle.std.proofs.lemmas.Result.{on_ok_weaker}
use Rattle.krb_show.specs.declared.rows.walk.Walk.TheVariants as walks
use Rattle.krb_show_messages.proofs.prefixed.show_by_message_row.Goals as goal

pub returns-in-Items-clause-ok : goal.returns-in-Items-clause-ok
returns-in-Items-clause-ok c =
    let walked = rw (c.in-Items.is, c.behind_length-message.ensures) at c.in_ok-items.ensures in
    let ok = rw (c.deref.ensures.value, c.behind_length-message.ensures) at c.show_items.ensures.ok in
    on_ok_weaker c.show_items.result (λ shown. (walks.Items c.in-Items.items, walked, shown)) ok
