use Rattle.std.proofs.Common.{◌≡◌, ◌++◌, ◌<◌, ◌^◌, length}
use Rattle.std.specs.List.{flat_map, AllByRecursion}
use Rattle.krb_der_x509.specs.ObjectIdentifier.{sub_identifier}
use Rattle.krb_der_x509.proofs.object_identifier.read_sub_identifiers.Given as goal

abbrev pub invariant-loop-rest : goal.invariant-loop-rest
invariant-loop-rest l = (l.fn.octets ≡ flat_map sub_identifier l.numbers.items ++ l.rest) × AllByRecursion (λ n. n < 2 ^ 64) l.numbers.items

abbrev pub decreases-loop-rest : goal.decreases-loop-rest
decreases-loop-rest l = length l.rest
