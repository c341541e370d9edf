use Rattle.std.proofs.Common.{◌≡◌, ◌++◌, take}
use Rattle.krb_file_tools.specs.Principals.{name_text}
use Rattle.krb_file_tools.proofs.list.principal.push_name.Given as goal

abbrev pub invariant-octets : goal.invariant-octets
invariant-octets l = l.out.items ≡ l.fn.out.items ++ name_text (take l.octet-index l.octets)
