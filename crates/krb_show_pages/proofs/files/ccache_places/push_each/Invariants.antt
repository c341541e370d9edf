use Rattle.std.proofs.Common.{◌+◌, ◌<◌, ◌^◌, List, Option, length}
use Rattle.krb_message_fields.specs.declared.places.place.Place.{Place}
use Rattle.krb_show_pages.specs.CcachePlaces.{adds_each_typed, each_typed_size}
use Rattle.krb_show_pages.proofs.files.ccache_places.push_each.Given as goal

abbrev pub invariant-typed : goal.invariant-typed
invariant-typed l = record {
  goes_on : (new : List (Option Place)) → adds_each_typed 4 l.at l.left l.places.items new → adds_each_typed 4 l.fn.at l.fn.list l.fn.places.items new;
  room : l.at + each_typed_size 4 l.left < 2 ^ 64;
}

abbrev pub decreases-typed : goal.decreases-typed
decreases-typed l = length l.left
