use Rattle.std.proofs.Common.{take}
use Rattle.krb_accept_report.specs.Requests.{AreKvnos}
use Rattle.krb_accept_report.proofs.at_hand.kvnos_for.Given as goal

abbrev pub invariant-keys : goal.invariant-keys
invariant-keys l = AreKvnos l.request (take l.key-index l.keys) l.kvnos.items
