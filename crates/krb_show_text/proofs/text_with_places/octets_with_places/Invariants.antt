use Rattle.std.proofs.Common.{◌≡◌, take}
use Rattle.krb_show_text.specs.Text.{AreLines}
use Rattle.krb_show_text.specs.TextWithPlaces.{page_lines_with_places, page_text_with_places}
use Rattle.krb_show_text.proofs.Lines.{depth_behind}
use Rattle.krb_show_text.proofs.text_with_places.octets_with_places.Given as goal

abbrev pub invariant-loop-token : goal.invariant-loop-token
invariant-loop-token l =
    (l.out.items ≡ page_text_with_places (take l.token-index l.page)) × AreLines (page_lines_with_places 0 (take l.token-index l.page))
    × (l.depth ≡ depth_behind 0 (take l.token-index l.page))
