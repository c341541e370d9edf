use Rattle.std.proofs.Common.{◌≡◌, take}
use Rattle.krb_show_text.specs.Text.{page_text, page_lines, AreLines}
use Rattle.krb_show_text.proofs.Lines.{depth_behind}
use Rattle.krb_show_text.proofs.text.text_octets.Given as goal

abbrev pub invariant-loop-token : goal.invariant-loop-token
invariant-loop-token l =
    (l.out.items ≡ page_text (take l.token-index l.page)) × AreLines (page_lines 0 (take l.token-index l.page))
    × (l.depth ≡ depth_behind 0 (take l.token-index l.page))
