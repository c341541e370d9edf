use Rattle.std.proofs.Common.{◌≡◌, ◌≤◌, length}
use Rattle.krb_registry.specs.Names.{table}
use Rattle.krb_registry.proofs.Rows.{as_row, of_all}
use Rattle.krb_registry.proofs.names.number.Goals as goal

pub returns-clause-unknown : goal.returns-clause-unknown
returns-clause-unknown c =
    let items = c.rows-row-items.result.now in
    let all : length items ≤ c.loop-row.row-index = search in
    of_all as_row (λ row. ¬ row.1 ≡ c.args.name.now) items (table c.args.kind) c.loop-row.row-index c.rows-row-items.ensures all c.loop-row.invariant
