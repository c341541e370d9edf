use Rattle.std.proofs.Common.{◌≡◌, ◌++◌, take}
use Rattle.krb_show_pac.proofs.message.push_copies.Given as goal

abbrev pub invariant-loop-element : goal.invariant-loop-element
invariant-loop-element l = l.made.items ≡ l.fn.made.items ++ take l.element-index l.elements
