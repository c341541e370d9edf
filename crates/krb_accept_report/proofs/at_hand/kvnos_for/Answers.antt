use Rattle.std.proofs.Common.{sym, take}
use Rattle.std.proofs.lemmas.List.{take_more}
use Rattle.krb_accept_report.proofs.Kvnos.{step}
use Rattle.krb_accept_report.proofs.at_hand.kvnos_for.Goals as goal

pub keys-preserved : goal.keys-preserved
keys-preserved c =
    rw (take_more c.args.keys.now c.keys.key-index c.key-item.result c.keys-test.true, sym c.key-item.is)
    (step c.args.request.now (take c.keys.key-index c.args.keys.now) c.key-item.result c.keys.kvnos.items c.push_kvno.new.kvnos.items c.keys.invariant
    c.in_ok-push_kvno.ensures)
