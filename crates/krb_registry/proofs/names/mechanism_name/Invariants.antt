use Rattle.std.proofs.Common.{◌≡◌, ℕ, List, Bor, ◌<◌, slice_index_or}
use Rattle.krb_registry.proofs.names.mechanism_name.Given as goal

abbrev pub invariant-loop-row : goal.invariant-loop-row
invariant-loop-row l = (k : ℕ) (d : Bor (List ℕ) × Bor (List ℕ)) → k < l.row-index → ¬ (slice_index_or l.row-items k d).0.now ≡ l.identifier
