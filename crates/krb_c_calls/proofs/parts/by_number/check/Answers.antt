use Rattle.std.proofs.Common.{◌≡◌, ℕ, Some, subst, sym, List}
use Rattle.krb_schema.specs.Named.{row_in}
use Rattle.krb_schema.specs.Types.{types}
use Rattle.krb_c_calls.proofs.KindRows.{has_row}
use Rattle.krb_c_calls.proofs.parts.by_number.check.Goals as goal

pub read_by_row-requires : goal.read_by_row-requires
read_by_row-requires c = subst (λ (name : List ℕ). (row : ℕ) × (row_in types name ≡ Some row)) (sym c.name_of.ensures) (has_row c.in-Some.kind)
