use Rattle.std.proofs.Common.{◌+◌, ◌<◌, ◌^◌, List, Option, length}
use Rattle.krb_message_fields.specs.declared.places.place.Place.{Place}
use Rattle.krb_show_pages.specs.CcachePlaces.{adds_components, components_size}
use Rattle.krb_show_pages.proofs.files.ccache_places.push_components.Given as goal

abbrev pub invariant-components : goal.invariant-components
invariant-components l = record {
  goes_on : (new : List (Option Place)) → adds_components l.at l.left l.places.items new → adds_components l.fn.at l.fn.components l.fn.places.items new;
  room : l.at + components_size l.left < 2 ^ 64;
}

abbrev pub decreases-components : goal.decreases-components
decreases-components l = length l.left
