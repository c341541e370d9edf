use Rattle.std.proofs.Common.{◌≡◌, ◌≤◌, length}
use Rattle.krb_registry.specs.Names.{mechanisms}
use Rattle.krb_registry.proofs.Rows.{as_mechanism, of_all}
use Rattle.krb_registry.proofs.names.mechanism_name.Goals as goal

pub returns-clause-unnamed : goal.returns-clause-unnamed
returns-clause-unnamed c =
    let items = c.mechanism_rows-row-items.result.now in
    let all : length items ≤ c.loop-row.row-index = search in
    of_all as_mechanism (λ row. ¬ row.0 ≡ c.args.identifier.now) items mechanisms c.loop-row.row-index c.mechanism_rows-row-items.ensures all c.loop-row.invariant
