use Rattle.std.proofs.Common.{◌≡◌, length}
use Rattle.std.specs.List.{fold}
use Rattle.krb_schema.specs.Paths.{number_of, with_digit}
use Rattle.krb_schema.proofs.path.number_of.Given as goal

abbrev pub invariant-digits : goal.invariant-digits
invariant-digits l = number_of l.digits ≡ fold with_digit l.number l.rest

abbrev pub decreases-digits : goal.decreases-digits
decreases-digits l = length l.rest
