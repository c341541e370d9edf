use Rattle.std.proofs.Common.{◌≡◌, take}
use Rattle.krb_input.specs.Blanks.{without_blanks}
use Rattle.krb_input.proofs.blanks.without_blanks.Given as goal

abbrev pub invariant-loop-octet : goal.invariant-loop-octet
invariant-loop-octet l = l.text.items ≡ without_blanks (take l.octet-index l.octets)
