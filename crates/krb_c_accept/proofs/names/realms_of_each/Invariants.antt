use Rattle.std.proofs.Common.{map, take}
use Rattle.krb_accept_rules.specs.Texts.{IsRealm}
use Rattle.krb_c_accept.specs.Names.{AreEach}
use Rattle.krb_c_accept.proofs.names.realms_of_each.Given as goal

abbrev pub invariant-texts : goal.invariant-texts
invariant-texts l = AreEach IsRealm (map (λ text. text.now) (take l.text-index l.texts)) l.realms.items
