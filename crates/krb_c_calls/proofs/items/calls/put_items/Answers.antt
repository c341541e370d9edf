use Rattle.std.proofs.Common.{List, ◌<◌, ◌++◌, length, take, drop, ap, ◌∙◌, arith, slice_set}
use Rattle.std.specs.Prelude.{map}
use Rattle.krb_c_calls.specs.Items.{record_of}
use Rattle.krb_c_calls.specs.declared.items.record.ItemRecord.{ItemRecord}
use Rattle.krb_c_calls.proofs.PlacedItems.{placed}
use Rattle.krb_c_calls.proofs.items.calls.put_items.Goals as goal

pub items-preserved : goal.items-preserved
items-preserved c =
    let found = c.args.found.now in
    let before = c.args.items.now in
    let n = c.items.n in
    let within : n < length found = c.items-test.true in
    let room : n < length before = omega arith in
    ap (λ (l : List ItemRecord). slice_set l n c.record_of.result) c.items.invariant
    ∙ ap (λ (r : ItemRecord). slice_set (map record_of (take n found) ++ drop n before) n r) c.record_of.ensures
    ∙ placed record_of found before n _ within room
