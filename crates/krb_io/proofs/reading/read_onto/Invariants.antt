use Rattle.std.proofs.Common.{◌-◌, ◌≤◌}
use Rattle.krb_io.specs.Transfer.{IsReadOnto}
use Rattle.krb_io.proofs.reading.read_onto.Given as goal

abbrev pub invariant-loop-done : goal.invariant-loop-done
invariant-loop-done g l = IsReadOnto l.done l.fn.out.items l.out.items (g.R.Read.remaining l.fn.reader) (g.R.Read.remaining l.reader) × (l.done ≤ l.fn.count)

abbrev pub decreases-loop-done : goal.decreases-loop-done
decreases-loop-done g l = l.fn.count - l.done
