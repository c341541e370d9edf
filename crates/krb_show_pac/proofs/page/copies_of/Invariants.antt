use Rattle.std.proofs.Common.{◌≡◌, take}
use Rattle.krb_show_pac.proofs.page.copies_of.Given as goal

abbrev pub invariant-loop-key : goal.invariant-loop-key
invariant-loop-key l = l.copies.items ≡ take l.key-index l.keys
