use Rattle.krb_pac.proofs.EntriesRead.{EntriesRead}
use Rattle.krb_pac.proofs.pac.Pac.from_octets.Given as goal

abbrev pub invariant-entries : goal.invariant-entries
invariant-entries l = EntriesRead l.bytes l.position l.counter l.buffers.items
