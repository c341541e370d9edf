use Rattle.std.proofs.Common.{◌≡◌, ◌++◌, length}
use Rattle.krb_pac_contents.specs.Names.{units_of}
use Rattle.krb_pac_contents.proofs.text.names.units.Given as goal

-- the units so far and those that are left are all
abbrev pub invariant-loop-rest : goal.invariant-loop-rest
invariant-loop-rest l = l.units.items ++ units_of l.rest ≡ units_of l.fn.octets

abbrev pub decreases-loop-rest : goal.decreases-loop-rest
decreases-loop-rest l = length l.rest
