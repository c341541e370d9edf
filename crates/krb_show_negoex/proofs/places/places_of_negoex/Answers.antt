use Rattle.std.proofs.Common.{List, Option, inl, subst}
use Rattle.krb_message_fields.specs.declared.places.place.Place.{Place}
use Rattle.krb_show_negoex.specs.NegoexPlaces.{AddsMessage}
use Rattle.krb_show_negoex.proofs.places.places_of_negoex.Goals as goal

pub returns-then-not-is_followed : goal.returns-then-not-is_followed
returns-then-not-is_followed c =
    let e = c.in_ok-push_message.ensures in
    let octets = c.args.octets.now in
    let new = c.push_message.new.places.items in
    let added : AddsMessage 0 octets c.new-places.result.items new =
    record { short = e.short; nego = e.nego; exchange = e.exchange; verify = e.verify; other = e.other } in
    inl (c.if-not-is_followed.ensures, subst (λ (old : List (Option Place)). AddsMessage 0 octets old new) c.new-places.ensures.items added)
