use Rattle.std.proofs.Common.{◌≡◌, ◌++◌, take}
use Rattle.std.specs.Prelude.{map}
use Rattle.krb_c_calls.specs.Items.{record_of}
use Rattle.krb_c_pages.proofs.decoded.decoding.push_records.Given as goal

abbrev pub invariant-items : goal.invariant-items
invariant-items l = l.records.items ≡ l.initial.records.items ++ map record_of (take l.item-index l.items)
