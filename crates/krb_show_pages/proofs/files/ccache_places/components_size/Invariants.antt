use Rattle.std.proofs.Common.{◌≡◌, ◌+◌, length}
use Rattle.krb_show_pages.specs.CcachePlaces.{components_size}
use Rattle.krb_show_pages.proofs.files.ccache_places.components_size.Given as goal

abbrev pub invariant-components : goal.invariant-components
invariant-components l = l.size + components_size l.left ≡ components_size l.fn.components

abbrev pub decreases-components : goal.decreases-components
decreases-components l = length l.left
