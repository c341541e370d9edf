use Rattle.std.proofs.Common.{◌+◌, ◌<◌, ◌^◌, List, Option, length}
use Rattle.krb_message_fields.specs.declared.places.place.Place.{Place}
use Rattle.krb_show_pages.specs.CcachePlaces.{adds_credentials, credentials_size}
use Rattle.krb_show_pages.proofs.files.ccache_places.push_credentials.Given as goal

abbrev pub invariant-credentials : goal.invariant-credentials
invariant-credentials l = record {
  goes_on : (new : List (Option Place)) → adds_credentials l.version l.at l.left l.places.items new → adds_credentials l.version l.fn.at l.fn.credentials l.fn.places.items new;
  room : l.at + credentials_size l.version l.left < 2 ^ 64;
}

abbrev pub decreases-credentials : goal.decreases-credentials
decreases-credentials l = length l.left
