use Rattle.std.proofs.Common.{◌≡◌, ◌+◌, length}
use Rattle.krb_show_pages.specs.CcachePlaces.{each_typed_size}
use Rattle.krb_show_pages.proofs.files.ccache_places.fields_size.Given as goal

abbrev pub invariant-fields : goal.invariant-fields
invariant-fields l = l.size + each_typed_size 2 l.left ≡ each_typed_size 2 l.fn.fields

abbrev pub decreases-fields : goal.decreases-fields
decreases-fields l = length l.left
