use Rattle.std.proofs.Common.{◌≡◌, ◌+◌, ◌<◌, ◌^◌, ◌++◌, List, ℕ, length}
use Rattle.std.specs.List.{AllByRecursion, flat_map}
use Rattle.krb_files.specs.Keytab.{FitsRecord, IsEnd, Record, record_octets}
use Rattle.krb_show_pages.specs.KeytabPlaces.{records_places}
use Rattle.krb_show_pages.proofs.files.keytab_places.push_records.Given as goal

abbrev pub invariant-records : goal.invariant-records
invariant-records l = record {
  goes_on : (rs : List Record) (end : List ℕ) → AllByRecursion FitsRecord rs → IsEnd end → l.records ≡ flat_map record_octets rs ++ end
      → (left : List Record) × AllByRecursion FitsRecord left × (l.rest ≡ flat_map record_octets left ++ end)
      × (l.places.items ++ records_places l.at left ≡ l.fn.places.items ++ records_places l.fn.at rs);
  room : l.at + length l.rest < 2 ^ 64;
}

abbrev pub decreases-records : goal.decreases-records
decreases-records l = length l.rest
