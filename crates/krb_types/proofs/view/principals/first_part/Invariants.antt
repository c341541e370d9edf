use Rattle.std.proofs.Common.{◌≡◌, ◌≤◌, ◌-◌, length, take}
use Rattle.std.specs.String.{string_bytes}
use Rattle.std.specs.Str.{IsAscii}
use Rattle.krb_types.specs.Principals.{quoted}
use Rattle.krb_types.proofs.view.principals.first_part.Given as goal

abbrev pub invariant-loop-part : goal.invariant-loop-part
invariant-loop-part l = (l.taken ≤ length l.text) × (take l.taken l.text ≡ quoted (string_bytes l.part)) × IsAscii (string_bytes l.part)

abbrev pub decreases-loop-part : goal.decreases-loop-part
decreases-loop-part l = length l.text - l.taken
