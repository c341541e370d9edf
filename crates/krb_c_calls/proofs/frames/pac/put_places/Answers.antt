use Rattle.std.proofs.Common.{◌≡◌, List, ◌<◌, ◌++◌, length, take, drop, ap, sym, ◌∙◌, arith, slice_set}
use Rattle.std.specs.Prelude.{map}
use Rattle.krb_pac.specs.Layout.{Buffer}
use Rattle.krb_c_calls.specs.Pac.{place_record}
use Rattle.krb_c_calls.specs.declared.frames.pac.PlaceRecord.{PlaceRecord}
use Rattle.krb_c_calls.proofs.Buffers.{one_more}
use Rattle.krb_c_calls.proofs.frames.pac.put_places.Goals as goal

pub places-preserved : goal.places-preserved
places-preserved c =
    let pac = c.args.view.now in
    let before = c.args.places.now in
    let n = c.places.n in
    let record_of : Buffer → PlaceRecord = λ b. place_record b.info in
    let within : n < length pac = omega arith in
    let room : n < length before = omega arith in
    let said : c.place_record.result ≡ record_of c.in-Some.buffer = cc in
    ap (λ (l : List PlaceRecord). slice_set l n c.place_record.result) c.places.invariant
    ∙ ap (λ (r : PlaceRecord). slice_set (map record_of (take n pac) ++ drop n before) n r) said
    ∙ one_more record_of pac before n c.in-Some.buffer (sym c.in-Some.ensures) within room
