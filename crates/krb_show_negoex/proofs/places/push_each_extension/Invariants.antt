use Rattle.std.proofs.Common.{◌≡◌, ◌++◌}
use Rattle.krb_show_negoex.specs.NegoexPlaces.{each_extension}
use Rattle.krb_show_negoex.proofs.places.push_each_extension.Given as goal

abbrev pub invariant-loop-n : goal.invariant-loop-n
invariant-loop-n l = l.places.items ≡ l.fn.places.items ++ each_extension l.base l.octets l.vector.offset l.n
