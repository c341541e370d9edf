use Rattle.std.proofs.Common.{◌≡◌, ◌++◌, take}
use Rattle.krb_show.specs.NameTexts.{component_text}
use Rattle.krb_show.proofs.rows.names.push_component.Given as goal

abbrev pub invariant-loop-octet : goal.invariant-loop-octet
invariant-loop-octet l = l.out.items ≡ l.fn.out.items ++ component_text (take l.octet-index l.component)
