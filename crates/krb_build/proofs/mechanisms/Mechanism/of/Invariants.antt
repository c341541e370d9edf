use Rattle.std.proofs.Common.{◌≢◌, ℕ, ◌<◌, slice_index_or}
use Rattle.krb_build.specs.Mechanisms.{arcs}
use Rattle.krb_build.specs.declared.mechanisms.Mechanism.{Mechanism}
use Rattle.krb_build.proofs.mechanisms.Mechanism.of.Given as goal

-- none of those so far
abbrev pub invariant-loop-mechanism : goal.invariant-loop-mechanism
invariant-loop-mechanism l =
    (k : ℕ) (d : Mechanism) → k < l.mechanism-index → l.fn.identifier ≢ arcs (slice_index_or l.mechanism-items k d)
