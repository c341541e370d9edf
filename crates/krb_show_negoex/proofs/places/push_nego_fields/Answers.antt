use Rattle.std.proofs.Common.{◌+◌, ◌++◌, ◌∷◌, [], length}
use Rattle.krb_show_negoex.specs.NegoexPlaces.{end_places, extensions_places, header_places, schemes_places}
use Rattle.krb_show.specs.InnerPlaces.{place_at}
use Rattle.krb_show.proofs.PlaceLists.{behind_both}
use Rattle.krb_show_negoex.proofs.places.push_nego_fields.Goals as goal

pub returns : goal.returns
returns c =
    let base = c.args.base in
    let octets = c.args.octets.now in
    let whole = place_at base (length octets) in
    let first = rw (c.place_at-whole.ensures) at c.in_ok-push.ensures.items in
    let fields = rw (c.place_at.ensures, c.place_at-2.ensures) at c.in_ok-extend_from_slice.ensures.items in
    let end = rw (c.place_at-whole.ensures) at c.in_ok-push_end.ensures in
    behind_both (c.args.places.now.items) (whole ∷ []) (header_places base ++ (place_at (base + 40) 32 ∷ place_at (base + 72) 8 ∷ [] ++ (schemes_places base octets ++ (extensions_places base octets ++ (end_places whole c.args.is_unsaid))))) c.push.new.self.items c.push_end.new.places.items (first)
    (behind_both (c.push.new.self.items) (header_places base) (place_at (base + 40) 32 ∷ place_at (base + 72) 8 ∷ [] ++ (schemes_places base octets ++ (extensions_places base octets ++ (end_places whole c.args.is_unsaid)))) c.push_header.new.places.items c.push_end.new.places.items (c.in_ok-push_header.ensures)
    (behind_both (c.push_header.new.places.items) (place_at (base + 40) 32 ∷ place_at (base + 72) 8 ∷ []) (schemes_places base octets ++ (extensions_places base octets ++ (end_places whole c.args.is_unsaid))) c.extend_from_slice.new.self.items c.push_end.new.places.items (fields)
    (behind_both (c.extend_from_slice.new.self.items) (schemes_places base octets) (extensions_places base octets ++ (end_places whole c.args.is_unsaid)) c.push_schemes.new.places.items c.push_end.new.places.items (c.in_ok-push_schemes.ensures)
    (behind_both (c.push_schemes.new.places.items) (extensions_places base octets) (end_places whole c.args.is_unsaid) c.push_extensions.new.places.items c.push_end.new.places.items (c.in_ok-push_extensions.ensures)
    (end)))))
