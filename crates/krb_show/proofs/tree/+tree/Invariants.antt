use Rattle.std.proofs.Common.{◌≡◌, ◌+◌, ◌*◌, List, ◌++◌, length}
use Rattle.krb_show.specs.Tokens.{Token}
use Rattle.krb_show.specs.Tree.{IsTree}
use Rattle.krb_show.proofs.tree.+tree.Given as goal

abbrev pub decreases-push_element : goal.decreases-push_element
decreases-push_element l = 2 * l.levels

abbrev pub decreases-push_elements : goal.decreases-push_elements
decreases-push_elements l = 2 * l.levels + 1

abbrev pub invariant-push_elements-elements : goal.invariant-push_elements-elements
invariant-push_elements-elements l = record {
  size : l.at + length l.rest ≡ l.start + length l.octets;
  shown : (done : List Token) × (l.page.items ≡ l.fn.page.items ++ done)
      × ((more : List Token) → IsTree l.levels l.at l.rest more → IsTree l.levels l.start l.octets (done ++ more));
}

abbrev pub decreases-push_elements-elements : goal.decreases-push_elements-elements
decreases-push_elements-elements l = length l.rest
