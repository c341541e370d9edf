use Rattle.std.proofs.Common.{◌≡◌, ◌≤◌, length, take}
use Rattle.krb_show.specs.Spots.{spotted}
use Rattle.krb_show.proofs.spots.place_tokens.Given as goal

abbrev pub invariant-places : goal.invariant-places
invariant-places g l = record {
  goes_on : spotted g.T.Tells.told l.base l.octets l.index l.rest l.page.items
      ≡ spotted g.T.Tells.told l.base l.octets l.fn.start l.places l.fn.page.items;
  kept : take l.start l.page.items ≡ take l.start l.fn.page.items;
  after : l.start ≤ l.index;
}

abbrev pub decreases-places : goal.decreases-places
decreases-places g l = length l.rest
