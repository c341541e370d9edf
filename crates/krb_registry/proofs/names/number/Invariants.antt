use Rattle.std.proofs.Common.{◌≡◌, ℕ, ℤ, List, Bor, ◌<◌, slice_index_or}
use Rattle.krb_registry.proofs.names.number.Given as goal

abbrev pub invariant-loop-row : goal.invariant-loop-row
invariant-loop-row l = (k : ℕ) (d : ℤ × Bor (List ℕ)) → k < l.row-index → ¬ (slice_index_or l.row-items k d).1.now ≡ l.name
