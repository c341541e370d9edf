use Rattle.std.proofs.Common.{List, length}
use Rattle.krb_show.specs.Tokens.{Begins, Token}
use Rattle.krb_show.specs.PlacedItems.{shown_with_places}
use Rattle.krb_show.proofs.rows.placed.push_each_with_places.Given as goal

abbrev pub invariant-items : goal.invariant-items
invariant-items g l = record {
  goes_on : (new : List Token) → shown_with_places g.F.ShowsFormats.tells g.F.ShowsFormats.places l.octets l.rest l.stand l.page.items new
      → shown_with_places g.F.ShowsFormats.tells g.F.ShowsFormats.places l.octets l.items l.fn.stand l.fn.page.items new;
  kept : Begins l.fn.page.items l.page.items;
}

abbrev pub decreases-items : goal.decreases-items
decreases-items g l = length l.rest
