use Rattle.std.proofs.Common.{map, take}
use Rattle.krb_accept_rules.specs.Texts.{IsServer}
use Rattle.krb_c_accept.specs.Names.{AreEach}
use Rattle.krb_c_accept.proofs.names.servers_of_each.Given as goal

abbrev pub invariant-texts : goal.invariant-texts
invariant-texts l = AreEach IsServer (map (λ text. text.now) (take l.text-index l.texts)) l.names.items
