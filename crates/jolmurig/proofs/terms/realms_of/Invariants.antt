use Rattle.std.proofs.Common.{take}
use Rattle.krb_accept_rules.specs.Texts.{IsRealm}
use Rattle.jolmurig.specs.Terms.{AreOfTexts}
use Rattle.jolmurig.proofs.terms.realms_of.Given as goal

abbrev pub invariant-texts : goal.invariant-texts
invariant-texts l = AreOfTexts IsRealm (take l.text-index l.texts) l.realms.items
