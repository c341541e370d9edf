use Rattle.std.proofs.Common.{List, Option, length}
use Rattle.krb_message_fields.specs.declared.places.place.Place.{Place}
use Rattle.krb_show_tokens.specs.TokenPlaces.{adds_each}
use Rattle.krb_show_tokens.proofs.places.negotiations.push_each.Given as goal

abbrev pub invariant-tokens : goal.invariant-tokens
invariant-tokens l = (new : List (Option Place)) → adds_each l.base l.rest l.places.items new → adds_each l.fn.base l.page l.fn.places.items new

abbrev pub decreases-tokens : goal.decreases-tokens
decreases-tokens l = length l.rest
