use Rattle.std.proofs.Common.{◌≡◌, take}
use Rattle.std.specs.Int.Digits.{number_from_digits}
use Rattle.krb_der_core.specs.Integer.{inverted}
use Rattle.krb_der_core.proofs.integer.number_of_inverted.Given as goal

abbrev pub invariant-loop-octet : goal.invariant-loop-octet
invariant-loop-octet l = l.n ≡ number_from_digits 256 (inverted (take l.octet-index l.octets))
