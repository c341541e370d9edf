use Rattle.std.proofs.Common.{take}
use Rattle.krb_accept_rules.specs.Texts.{IsServer}
use Rattle.jolmurig.specs.Terms.{AreOfTexts}
use Rattle.jolmurig.proofs.terms.servers_of.Given as goal

abbrev pub invariant-texts : goal.invariant-texts
invariant-texts l = AreOfTexts IsServer (take l.text-index l.texts) l.servers.items
