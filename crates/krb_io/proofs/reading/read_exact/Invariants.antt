use Rattle.std.proofs.Common.{◌≡◌, ◌-◌, ◌≤◌, length, take}
use Rattle.std.specs.Io.KnownBytes.{Consumes}
use Rattle.krb_io.proofs.reading.read_exact.Given as goal

abbrev pub invariant-loop-done : goal.invariant-loop-done
invariant-loop-done g l = (length l.buffer ≡ length l.initial.buffer) × (l.done ≤ length l.buffer) × Consumes (g.R.Read.remaining l.initial.reader) (g.R.Read.remaining l.reader) (take l.done l.buffer)

abbrev pub decreases-loop-done : goal.decreases-loop-done
decreases-loop-done g l = length l.buffer - l.done
