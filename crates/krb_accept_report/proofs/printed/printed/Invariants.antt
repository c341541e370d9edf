use Rattle.std.proofs.Common.{◌≡◌, take}
use Rattle.krb_accept_report.specs.Texts.{printed}
use Rattle.krb_accept_report.proofs.printed.printed.Given as goal

abbrev pub invariant-octets : goal.invariant-octets
invariant-octets l = l.line.items ≡ printed (take l.octet-index l.text)
