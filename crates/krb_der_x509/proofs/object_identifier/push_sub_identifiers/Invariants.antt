use Rattle.std.proofs.Common.{◌≡◌, ◌++◌, take}
use Rattle.std.specs.List.{flat_map}
use Rattle.krb_der_x509.specs.ObjectIdentifier.{sub_identifier}
use Rattle.krb_der_x509.proofs.object_identifier.push_sub_identifiers.Given as goal

abbrev pub invariant-loop-n : goal.invariant-loop-n
invariant-loop-n l = l.out.items ≡ l.fn.out.items ++ flat_map sub_identifier (take l.n-index l.numbers)
