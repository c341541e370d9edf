use Rattle.std.proofs.Common.{◌≡◌, take}
use Rattle.std.specs.Prelude.{map}
use Rattle.krb_show.specs.InnerPlaces.{place_behind}
use Rattle.krb_show.proofs.rows.inner.places_behind.Given as goal

abbrev pub invariant-tokens : goal.invariant-tokens
invariant-tokens l = l.places.items ≡ map (λ t. place_behind l.base t.place) (take l.token-index l.page)
