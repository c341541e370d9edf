use Rattle.std.proofs.Common.{◌≡◌, ◌++◌, length}
use Rattle.std.specs.List.{flat_map}
use Rattle.krb_c_pages.specs.Listed.{octets_of, records_behind}
use Rattle.krb_c_pages.proofs.listed.listing.listing_of.Given as goal

abbrev pub invariant-tokens : goal.invariant-tokens
invariant-tokens l = record {
  items : l.listing.items ++ records_behind (length l.listing.octets) l.rest ≡ records_behind 0 l.page;
  octets : l.listing.octets ++ flat_map octets_of l.rest ≡ flat_map octets_of l.page;
}

abbrev pub decreases-tokens : goal.decreases-tokens
decreases-tokens l = length l.rest
