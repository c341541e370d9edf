use Rattle.std.proofs.Common.{◌≡◌, ◌+◌, ◌*◌, ◌^◌, ℕ, [], length}
use Rattle.krb_schema.specs.Shapes.{IsElement}
use Rattle.krb_encoding_check.proofs.Walks.{RowSoFar}
use Rattle.krb_encoding_check.proofs.check.+walk.Given as goal

-- each level is worth more than all fields and cases of a schema
abbrev level : ℕ → ℕ
level levels = levels * 2 ^ 66

abbrev pub decreases-check_element : goal.decreases-check_element
decreases-check_element l = level l.levels

abbrev pub decreases-check_whole : goal.decreases-check_whole
decreases-check_whole l = level l.levels + 1

abbrev pub decreases-check_row : goal.decreases-check_row
decreases-check_row l = level l.levels + 2

abbrev pub decreases-check_held : goal.decreases-check_held
decreases-check_held l = level l.levels + 2 + length l.cases.now

abbrev pub decreases-check_fields : goal.decreases-check_fields
decreases-check_fields l = level l.levels + 2 + 2 * length l.fields.now

abbrev pub decreases-check_wrapped : goal.decreases-check_wrapped
decreases-check_wrapped l = level l.levels + 3 + 2 * length l.more.now

abbrev pub decreases-check_bare : goal.decreases-check_bare
decreases-check_bare l = level l.levels + 3 + 2 * length l.more.now

abbrev pub decreases-check_content : goal.decreases-check_content
decreases-check_content l = level l.levels + 3 + 2 ^ 65

abbrev pub invariant-check_row-elements : goal.invariant-check_row-elements
invariant-check_row-elements l = record {
  size : l.place + length l.rest ≡ l.at + length l.octets;
  walked : RowSoFar (IsElement l.levels l.schema l.is l.name []) l.at l.place l.octets l.rest;
}

abbrev pub decreases-check_row-elements : goal.decreases-check_row-elements
decreases-check_row-elements l = length l.rest
