use Rattle.std.proofs.Common.{◌≡◌, ◌++◌, drop}
use Rattle.krb_input.specs.Machines.{written_from}
use Rattle.krb_input.specs.Marks.{digits_left, digits_of, spot_behind, unmarked}
use Rattle.krb_input.proofs.marks.unmarked.Given as goal

abbrev pub invariant-loop-octet : goal.invariant-loop-octet
invariant-loop-octet l = l.digits.items ++ written_from digits_of spot_behind digits_left l.spot (drop l.octet-index l.text) ≡ unmarked l.text
