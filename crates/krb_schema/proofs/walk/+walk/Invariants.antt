use Rattle.std.proofs.Common.{◌≡◌, ◌+◌, ◌*◌, ◌^◌, ℕ, List, [], ◌++◌, length}
use Rattle.krb_schema.specs.Shapes.{AreElements, IsElement}
use Rattle.krb_schema.specs.Walks.{Walked}
use Rattle.krb_schema.proofs.walk.+walk.Given as goal

-- each level is worth more than all fields and cases of a schema
abbrev level : ℕ → ℕ
level levels = levels * 2 ^ 66

abbrev pub decreases-push_element : goal.decreases-push_element
decreases-push_element l = level l.levels

abbrev pub decreases-push_whole : goal.decreases-push_whole
decreases-push_whole l = level l.levels + 1

abbrev pub decreases-push_row : goal.decreases-push_row
decreases-push_row l = level l.levels + 2

abbrev pub decreases-push_held : goal.decreases-push_held
decreases-push_held l = level l.levels + 2 + length l.cases.now

abbrev pub decreases-push_fields : goal.decreases-push_fields
decreases-push_fields l = level l.levels + 2 + 2 * length l.fields.now

abbrev pub decreases-push_wrapped : goal.decreases-push_wrapped
decreases-push_wrapped l = level l.levels + 3 + 2 * length l.more.now

abbrev pub decreases-push_bare : goal.decreases-push_bare
decreases-push_bare l = level l.levels + 3 + 2 * length l.more.now

abbrev pub decreases-push_content : goal.decreases-push_content
decreases-push_content l = level l.levels + 3 + 2 ^ 65

abbrev pub invariant-push_row-elements : goal.invariant-push_row-elements
invariant-push_row-elements l = record {
  size : l.place + length l.rest ≡ l.at + length l.octets;
  walked : (done : List ℕ) × (l.octets ≡ done ++ l.rest) × (l.place ≡ l.at + length done)
      × Walked (AreElements (IsElement l.levels l.schema l.is l.name [])) done l.depth l.at l.fn.items.items l.items.items;
}

abbrev pub decreases-push_row-elements : goal.decreases-push_row-elements
decreases-push_row-elements l = length l.rest
