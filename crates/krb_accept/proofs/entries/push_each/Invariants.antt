use Rattle.std.proofs.Common.{◌≡◌, ◌++◌, take}
use Rattle.std.specs.List.{flat_map}
use Rattle.krb_accept.specs.Entries.{text_octets}
use Rattle.krb_accept.proofs.entries.push_each.Given as goal

abbrev pub invariant-texts : goal.invariant-texts
invariant-texts l = l.out.items ≡ l.fn.out.items ++ flat_map text_octets (take l.text-index l.texts)
