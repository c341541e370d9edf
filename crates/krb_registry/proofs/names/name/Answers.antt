use Rattle.std.proofs.Common.{◌≡◌, ℕ, List, ◌<◌, ◌≤◌, length, slice_index_or, ℤ, w64, sym, ◌∙◌, Bor}
use Rattle.std.proofs.lemmas.Int.{to_z-of_z}
use Rattle.krb_registry.specs.Names.{table}
use Rattle.krb_registry.proofs.Rows.{as_row, of_all}
use Rattle.krb_registry.proofs.names.name.Goals as goal

pub returns-clause-unnamed : goal.returns-clause-unnamed
returns-clause-unnamed c =
    let items = c.rows-row-items.result.now in
    let all : length items ≤ c.loop-row.row-index = search in
    let each : (k : ℕ) (d : ℤ × Bor (List ℕ)) → k < c.loop-row.row-index → ¬ (slice_index_or items k d).0 ≡ c.args.number = λ k d lt e. c.loop-row.invariant k d lt (e ∙ sym (to_z-of_z w64 c.args.number c.ranges.number)) in
    of_all as_row (λ row. ¬ row.0 ≡ c.args.number) items (table c.args.kind) c.loop-row.row-index c.rows-row-items.ensures all each
