use Rattle.std.proofs.Common.{◌≡◌, ℕ, ◌+◌, List, Option, length}
use Rattle.krb_message_fields.specs.declared.places.place.Place.{Place}
use Rattle.krb_show_negoex.specs.NegoexPlaces.{AddsMessages}
use Rattle.krb_show_negoex.proofs.places.push_messages.Given as goal

abbrev pub invariant-messages : goal.invariant-messages
invariant-messages l = record {
  goes_on : (n : ℕ) (new : List (Option Place)) → AddsMessages n l.base l.rest l.places.items new
      → (m : ℕ) × AddsMessages m 0 l.octets l.fn.places.items new;
  within : l.base + length l.rest ≡ length l.octets;
}

abbrev pub decreases-messages : goal.decreases-messages
decreases-messages l = length l.rest
