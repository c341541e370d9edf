use Rattle.krb_show_messages.proofs.Reasons.{no_device}
use Rattle.krb_show_messages.proofs.values.items_by_row.Goals as goal

pub returns-in-Fault-clause-no_device : goal.returns-in-Fault-clause-no_device
returns-in-Fault-clause-no_device c =
    let w = rw (c.in-Fault.is) at c.in_ok-items.ensures in
    rw (c.reason_of.ensures) (no_device c.args.text.now w.0 c.args.octets.now c.in-Fault.fault w.2)
