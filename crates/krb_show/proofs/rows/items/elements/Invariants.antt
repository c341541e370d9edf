use Rattle.std.proofs.Common.{◌≡◌, ◌≤◌, ◌+◌, length}
use Rattle.krb_show.specs.Items.{elements}
use Rattle.krb_show.proofs.rows.items.elements.Given as goal

abbrev pub invariant-items : goal.invariant-items
invariant-items l = record {
  counted : elements l.depth l.items ≡ l.found + elements l.depth l.rest;
  within : l.found + length l.rest ≤ length l.items;
}

abbrev pub decreases-items : goal.decreases-items
decreases-items l = length l.rest
