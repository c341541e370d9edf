use Rattle.std.proofs.Common.{◌+◌, ◌<◌, ◌^◌, List, Option, length}
use Rattle.krb_message_fields.specs.declared.places.place.Place.{Place}
use Rattle.krb_show_pages.specs.CcachePlaces.{adds_each_typed, each_typed_size}
use Rattle.krb_show_pages.proofs.files.ccache_places.push_fields.Given as goal

abbrev pub invariant-fields : goal.invariant-fields
invariant-fields l = record {
  goes_on : (new : List (Option Place)) → adds_each_typed 2 l.at l.left l.places.items new → adds_each_typed 2 l.fn.at l.fn.fields l.fn.places.items new;
  room : l.at + each_typed_size 2 l.left < 2 ^ 64;
}

abbrev pub decreases-fields : goal.decreases-fields
decreases-fields l = length l.left
