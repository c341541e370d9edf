use Rattle.std.proofs.Common.{◌≡◌, ◌++◌, take}
use Rattle.krb_accept.specs.Pac.{wide}
use Rattle.krb_accept.proofs.pac.push_wide.Given as goal

abbrev pub invariant-octets : goal.invariant-octets
invariant-octets l = l.out.items ≡ l.fn.out.items ++ wide (take l.octet-index l.text)
