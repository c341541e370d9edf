use Rattle.std.proofs.Common.{◌≡◌, ◌++◌, take}
use Rattle.krb_show.specs.Leaves.{hex}
use Rattle.krb_show.proofs.digits.push_hex.Given as goal

abbrev pub invariant-loop-octet : goal.invariant-loop-octet
invariant-loop-octet l = l.out.items ≡ l.fn.out.items ++ hex (take l.octet-index l.octets)
