use Rattle.std.proofs.Common.{◌≡◌, ◌++◌, drop}
use Rattle.krb_input.specs.Machines.{written_from}
use Rattle.krb_input.specs.Dump.{digits_in, dump_digits, next_column, none_left}
use Rattle.krb_input.proofs.dump.dump_digits.Given as goal

abbrev pub invariant-loop-octet : goal.invariant-loop-octet
invariant-loop-octet l = l.digits.items ++ written_from digits_in next_column none_left l.at (drop l.octet-index l.text) ≡ dump_digits l.text
