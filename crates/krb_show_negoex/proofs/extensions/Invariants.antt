use Rattle.std.proofs.Common.{◌≡◌, take}
use Rattle.krb_show_negoex.proofs.extensions.Given as goal

abbrev pub invariant-loop-n : goal.invariant-loop-n
invariant-loop-n l = l.extensions.items ≡ take l.n l.view
