use Rattle.std.proofs.Common.{◌+◌, ◌++◌, ◌∷◌, [], length}
use Rattle.krb_show_negoex.specs.NegoexPlaces.{checksum_places, end_places, header_places}
use Rattle.krb_show.specs.InnerPlaces.{place_at}
use Rattle.krb_show.proofs.PlaceLists.{behind_both}
use Rattle.krb_show_negoex.proofs.places.push_verify_fields.Goals as goal

pub returns : goal.returns
returns c =
    let base = c.args.base in
    let octets = c.args.octets.now in
    let whole = place_at base (length octets) in
    let first = rw (c.place_at-whole.ensures) at c.in_ok-push.ensures.items in
    let fields = rw (c.place_at.ensures) at c.in_ok-push-2.ensures.items in
    let end = rw (c.place_at-whole.ensures) at c.in_ok-push_end.ensures in
    behind_both (c.args.places.now.items) (whole ∷ []) (header_places base ++ (place_at (base + 40) 16 ∷ [] ++ (checksum_places base octets ++ (end_places whole c.args.is_unsaid)))) c.push.new.self.items c.push_end.new.places.items (first)
    (behind_both (c.push.new.self.items) (header_places base) (place_at (base + 40) 16 ∷ [] ++ (checksum_places base octets ++ (end_places whole c.args.is_unsaid))) c.push_header.new.places.items c.push_end.new.places.items (c.in_ok-push_header.ensures)
    (behind_both (c.push_header.new.places.items) (place_at (base + 40) 16 ∷ []) (checksum_places base octets ++ (end_places whole c.args.is_unsaid)) c.push-2.new.self.items c.push_end.new.places.items (fields)
    (behind_both (c.push-2.new.self.items) (checksum_places base octets) (end_places whole c.args.is_unsaid) c.push_checksum.new.places.items c.push_end.new.places.items (c.in_ok-push_checksum.ensures)
    (end))))
