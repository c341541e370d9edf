use Rattle.std.proofs.Common.{◌≡◌, ◌++◌, take}
use Rattle.krb_show_text.specs.Text.{escaped}
use Rattle.krb_show_text.proofs.escape.push_escaped.Given as goal

abbrev pub invariant-loop-octet : goal.invariant-loop-octet
invariant-loop-octet l = l.out.items ≡ l.fn.out.items ++ escaped l.style (take l.octet-index l.octets)
