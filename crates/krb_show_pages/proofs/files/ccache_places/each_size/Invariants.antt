use Rattle.std.proofs.Common.{◌≡◌, ◌+◌, length}
use Rattle.krb_show_pages.specs.CcachePlaces.{each_typed_size}
use Rattle.krb_show_pages.proofs.files.ccache_places.each_size.Given as goal

abbrev pub invariant-typed : goal.invariant-typed
invariant-typed l = l.size + each_typed_size 4 l.left ≡ each_typed_size 4 l.fn.list

abbrev pub decreases-typed : goal.decreases-typed
decreases-typed l = length l.left
